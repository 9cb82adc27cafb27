-- Froidure and Pin's search: what is known of the elements when the targets of the right Cayley
-- graph were found so far.
use Rattle.std.specs.Prelude.{◌≡◌, ◌<◌, ◌≤◌, ◌+◌, ◌*◌, ◌==◌, ◌&&◌, nat_lt, ℕ, zero, suc, Bool, true, List, [], ◌∷◌, Some, length, slice_index}
use Rattle.language_theory.specs.Words.{Over, word_at}
use Rattle.language_theory.specs.ShortlexGraph.{node, IsGraphOf}
use Rattle.exploration.specs.Search.{IsSearched}
use Rattle.cayley_tables.specs.declared.limits.TheConstants.{MOST_ELEMENTS}
use Rattle.cayley_tables.specs.Links.{LinkLists, AreLinks, with_link}
use Rattle.cayley_tables.specs.LeftRows.{AreLeftNumbers}
use Rattle.froidure_pin.specs.declared.batch.Job.{Job}
use Rattle.froidure_pin.specs.declared.elements.Progress.{Progress}
use Rattle.froidure_pin.specs.Maps.{Maps, AreMaps, SameMap}
use Rattle.froidure_pin.specs.Rows.{number_of}

-- the words at the places below i are those shorter than n
pub record AreShorter (words : List (List ℕ)) (n i : ℕ) : Type 0 where
  pub below : (j : ℕ) → j < i → length (word_at words j) < n
  pub above : (j : ℕ) → i ≤ j → j < length words → n ≤ length (word_at words j)

-- The targets are those of a search. The elements have their links; the left graph is known for the
-- words shorter than n; the elements with words of length n are those from `from` to before `to`,
-- and the next target is of one of them or all their targets are found.
pub record IsReady (m : Maps) (rows : List (List ℕ)) (progress : Progress)
    (targets : List ℕ) : Type 0 where
  pub searched : IsSearched m.letters (number_of m rows) (length rows) targets
  pub linked : AreLinks m.letters searched.words (length rows) progress.links
  pub known : AreLeftNumbers m.letters (number_of m rows) searched.words progress.left.items
  pub long : length progress.left.items ≡ progress.from * m.letters
  pub n : ℕ
  pub shorter : AreShorter searched.words n progress.from
  pub short : AreShorter searched.words (n + 1) progress.to
  pub some : progress.from < progress.to
  pub within : progress.to ≤ length rows
  pub begun : progress.from * m.letters ≤ length targets
  pub unfinished : length targets ≤ progress.to * m.letters

-- the job is that of a letter and of an element whose targets are being found
pub record IsCurrent (m : Maps) (progress : Progress) (job : Job) : Type 0 where
  pub from : progress.from ≤ job.element
  pub to : job.element < progress.to
  pub letter : job.letter < m.letters

-- element 0 is the only one, and no target is found
pub record IsFirst (progress : Progress) : Type 0 where
  pub links : progress.links ≡ record {
    prefix = 0 ∷ [];
    last = 0 ∷ [];
    suffix = 0 ∷ [];
    first = 0 ∷ [];
  }
  pub left : progress.left.items ≡ []
  pub from : progress.from ≡ 0
  pub to : progress.to ≡ 1

-- the element of the word of element i without its first letter and with the letter a behind it
abbrev pub rest_of : ℕ → List ℕ → LinkLists → ℕ → ℕ → ℕ
rest_of k targets l i a = slice_index targets (slice_index l.suffix i * k + a)

-- that word is the least word of its element
abbrev pub is_reduced : ℕ → List ℕ → LinkLists → ℕ → ℕ → Bool
is_reduced k targets l i a = let r = rest_of k targets l i a in
    nat_lt 0 r && (slice_index l.prefix r == slice_index l.suffix i) && (slice_index l.last r == a)

-- the row of the element followed by the letter has to be made
abbrev pub needs_row : ℕ → List ℕ → LinkLists → ℕ → ℕ → Bool
needs_row k targets l zero a = true
needs_row k targets l (suc i) a = is_reduced k targets l (suc i) a

-- the first letter times the element r, read from the left graph, or from the left graph for the
-- prefix of r and then the right one
abbrev pub first_times : ℕ → List ℕ → LinkLists → List ℕ → ℕ → ℕ → ℕ
first_times k targets l left b zero = slice_index left b
first_times k targets l left b (suc r) =
    slice_index targets
    (slice_index left (slice_index l.prefix (suc r) * k + b) * k + slice_index l.last (suc r))

-- the element followed by the letter, read from the graphs that are there
abbrev pub read_target : ℕ → List ℕ → LinkLists → List ℕ → ℕ → ℕ → ℕ
read_target k targets l left i a =
    first_times k targets l left (slice_index l.first i) (rest_of k targets l i a)

-- the links with those of a new element, which is the element i followed by the letter a
abbrev pub next_links : ℕ → List ℕ → LinkLists → ℕ → ℕ → LinkLists
next_links k targets l zero a = with_link l 0 a 0 a
next_links k targets l (suc i) a =
    with_link l (suc i) a (rest_of k targets l (suc i) a) (slice_index l.first (suc i))

-- All targets are found: the graph is that of the words that take all points alike, and both
-- graphs, the links and the rows are whole.
pub record IsComplete (m : Maps) (rows : List (List ℕ)) (links : LinkLists)
    (left right : List ℕ) : Type 0 where
  pub maps : AreMaps m
  pub few : length rows ≤ MOST_ELEMENTS
  pub words : List (List ℕ)
  pub graph : IsGraphOf m.letters (SameMap m)
      (record { size = length rows; letters = m.letters; targets = right }) words
  pub numbers : (w : List ℕ) → Over m.letters w
      → number_of m rows w
      ≡ Some (node (record { size = length rows; letters = m.letters; targets = right }) w)
  pub linked : AreLinks m.letters words (length rows) links
  pub long : length left ≡ length rows * m.letters
  pub lefts : AreLeftNumbers m.letters (number_of m rows) words left
