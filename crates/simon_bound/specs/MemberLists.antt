-- The members of classes, each of which is named by a label.
use Rattle.std.specs.Prelude.{◌≡◌, ◌<◌, ◌≤◌, ◌+◌, ℕ, List, length, slice_index}

-- r is one more than the greatest number below i that has the label c, or 0 where there is none
pub record IsLast (labels : List ℕ) (i c r : ℕ) : Type 0 where
  pub below : r ≤ i
  pub greatest : (x : ℕ) → x < i → slice_index labels x ≡ c → x < r
  pub member : (x : ℕ) → x + 1 ≡ r → slice_index labels x ≡ c

-- For each class one more than the last of its members below i, and for each of these numbers one
-- more than the last member of its class before it; 0 stands for none.
pub record AreMemberLists (labels : List ℕ) (n i : ℕ) (lasts before : List ℕ) : Type 0 where
  pub classes : length lasts ≡ n
  pub long : length before ≡ i
  pub last : (c : ℕ) → c < n → IsLast labels i c (slice_index lasts c)
  pub earlier : (x : ℕ) → x < i → IsLast labels x (slice_index labels x) (slice_index before x)
