-- The classes while they are split.
use Rattle.std.specs.Prelude.{◌≡◌, ◌<◌, ◌≤◌, ℕ, List, length, slice_index, All}
use Rattle.std.specs.List.{Contains}
use Rattle.language_theory.specs.Words.{word_at}
use Rattle.refinement.specs.declared.splitting.Splitting.{Splitting}

-- every node is among those that came into its class
pub record IsListed (size : ℕ) (classes : List ℕ) (members : List (List ℕ)) : Type 0 where
  pub at : (i : ℕ) → i < size → Contains (word_at members (slice_index classes i)) i

-- the lists are long enough, and every node is among those that came into its class
pub record IsState (size : ℕ) (s : Splitting) : Type 0 where
  pub long : length s.class_of.items ≡ size
  pub few : length s.members.items ≤ size
  pub within : All (λ c. c < length s.members.items) s.class_of.items
  pub listed : IsListed size s.class_of.items s.members.items
  pub nodes : All (λ (m : List ℕ). All (λ i. i < size) m) s.members.items
  pub sizes : length s.sizes.items ≡ length s.members.items
  pub met : length s.met.items ≡ length s.members.items
  pub goals : length s.goals.items ≡ length s.members.items
  pub waiting : length s.waiting.items ≡ length s.members.items
  pub aims : All (λ c. c < length s.members.items) s.goals.items
  pub queued : All (λ c. c < length s.members.items) s.queue.items

-- the nodes are in their classes as before, and there may be more classes
pub record IsSame (old new : Splitting) : Type 0 where
  pub classes : new.class_of.items ≡ old.class_of.items
  pub more : length old.members.items ≤ length new.members.items
