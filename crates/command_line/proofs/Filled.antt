-- The rows of a word that must be given have values. Only an option is used without a value, and no
-- option has that word's name.
use Rattle.std.proofs.Common.{◌≡◌, ◌∙◌, ◌+◌, ◌&&◌, ◌||◌, ℕ, Bool, true, false, not, zero, suc, cond, min, refl, sym, ap, subst, List, [], ◌∷◌, ◌++◌, length, drop, Option, Some, None, is_some, true≢false}
use Rattle.std.specs.Prelude.{⊤, fold, slice_get, encode_utf8}
use Rattle.std.specs.List.{find, list_all}
use Rattle.std.specs.Option.{option_map_or, option_and_then}
use Rattle.std.specs.Str.{bytes_eq, chars}
use Rattle.std.proofs.lemmas.Slice.Eq.{bytes_eq-Decides}
use Rattle.clap.specs.Facts.{explicit_source}
use Rattle.clap.specs.Lexer.{long_of, short_of}
use Rattle.clap.specs.Matches.{count_text}
use Rattle.clap.specs.Takes.{is_given}
use Rattle.clap.specs.Walk.{Held, Names, Outcome, Row, Rule, Step, Text, Waiting, Walk, action_of, after_flag, after_step, arg_by_id, arg_by_index, arg_by_long, arg_by_short, at_row, attached_value, bundle, bundle_met, bundle_step, count_of, default_rows, done, finished, first_of, flag_met, has_row, idle, is_pending, long_met, long_or_other, more_values, new_count, next, option, option_met, option_word, plain, plain_word, positional, positional_held, pushed, reacted, reading_by, refused, settled, settled_rows, short_met, short_or_plain, started, subcommand, subcommand_met, subcommand_or_other, takes_several, takes_values, to_positional, trailing, used, used_as, used_by_id, value, values_or_missing, waits, walk, walk_from, walked, walked_from, with_count, with_default, with_values, without, word_met}
use Rattle.clap.specs.declared.builder.action.ArgAction.{ArgAction}
use Rattle.clap.specs.declared.builder.action.ArgAction.TheVariants.{Set, Append, SetTrue, SetFalse, Count}
use Rattle.clap.specs.declared.builder.value_parser.Reading.{Reading}
use Rattle.clap.specs.declared.parser.matches.ValueSource.{ValueSource}
use Rattle.clap.specs.declared.parser.matches.ValueSource.TheVariants.{CommandLine, DefaultValue}
use Rattle.clap.proofs.WalkLemmas.{both}

-- ---- searches

-- what a search finds passes it
found_passes : {X : Type 0} (test : X → Bool) (xs : List X) (x : X) → find test xs ≡ Some x
    → test x ≡ true
found_passes test [] x e = cc
found_passes test (y ∷ ys) x e = go (test y) refl e (found_passes test ys x)
  where
    go : (b : Bool) → test y ≡ b → cond b (Some y) (find test ys) ≡ Some x
        → (find test ys ≡ Some x → test x ≡ true) → test x ≡ true
    go true hit e later = let same : y ≡ x = cc in ap test (sym same) ∙ hit
    go false hit e later = later e

-- what holds of each element holds of the one that is found
found_among : {X : Type 0} (of_each test : X → Bool) (xs : List X) (x : X)
    → list_all of_each xs ≡ true → find test xs ≡ Some x → of_each x ≡ true
found_among of_each test [] x all e = cc
found_among of_each test (y ∷ ys) x all e =
    go (test y) e (found_among of_each test ys x (both (of_each y) (list_all of_each ys) all).1)
  where
    go : (b : Bool) → cond b (Some y) (find test ys) ≡ Some x
        → (find test ys ≡ Some x → of_each x ≡ true) → of_each x ≡ true
    go true e later =
        let same : y ≡ x = cc in
        ap of_each (sym same) ∙ (both (of_each y) (list_all of_each ys) all).0
    go false e later = later e

-- ---- values

abbrev HasSome : List Text → Type 0
HasSome [] = ⊥
HasSome (v ∷ vs) = ⊤

some_append : (vs more : List Text) → HasSome vs → HasSome (vs ++ more)
some_append [] more h = absurd h
some_append (v ∷ vs) more h = tt

some_last : (vs : List Text) (v : Text) → HasSome (vs ++ v ∷ [])
some_last [] v = tt
some_last (u ∷ vs) v = tt

some_or_missing : (a : Rule) (vs : List Text) → HasSome vs → HasSome (values_or_missing a vs)
some_or_missing a [] h = absurd h
some_or_missing a (v ∷ vs) h = tt

first_some : (vs : List Text) → HasSome vs → (text : Text) × (slice_get vs 0 ≡ Some text)
first_some [] h = absurd h
first_some (v ∷ vs) h = (v, refl)

-- the argument is used by its place, or has another name
abbrev pub is_placed : Text → Rule → Bool
is_placed name a = is_some a.index || not (bytes_eq a.id name)

module _ (name : Text) where
  -- ---- rows

  abbrev IsFilled : Row → Type 0
  IsFilled r = bytes_eq r.id name ≡ true → HasSome r.values

  abbrev AreFilled : List Row → Type 0
  AreFilled [] = ⊤
  AreFilled (r ∷ rows) = IsFilled r × AreFilled rows

  filled_append : (rows more : List Row) → AreFilled rows → AreFilled more
      → AreFilled (rows ++ more)
  filled_append [] more h k = k
  filled_append (r ∷ rows) more h k = (h.0, filled_append rows more h.1 k)

  filled_change : (id : Text) (change : Row → List Row) (missing rows : List Row)
      → ((r : Row) → IsFilled r → AreFilled (change r)) → AreFilled missing → AreFilled rows
      → AreFilled (at_row id change missing rows)
  filled_change id change missing [] keeps m h = m
  filled_change id change missing (r ∷ rows) keeps m h =
      go (bytes_eq r.id id) (filled_change id change missing rows keeps m h.1)
    where
      go : (b : Bool) → AreFilled (at_row id change missing rows)
          → AreFilled (cond b (change r ++ rows) (r ∷ at_row id change missing rows))
      go true later = filled_append (change r) rows (keeps r h.0) h.1
      go false later = (h.0, later)

  filled_without : (id : Text) (rows : List Row) → AreFilled rows → AreFilled (without id rows)
  filled_without id rows h = filled_change id (λ _. []) [] rows (λ r k. tt) tt h

  filled_values : (id : Text) (how : Reading) (s : ValueSource) (vs : List Text) (rows : List Row)
      → (bytes_eq id name ≡ true → HasSome vs) → AreFilled rows
      → AreFilled (with_values id how s vs rows)
  filled_values id how s vs rows some h =
      filled_change id (more_values s vs) _ rows (λ r k. ((λ e. some_append r.values vs (k e)), tt))
      (some, tt) h

  filled_count : (id : Text) (how : Reading) (s : ValueSource) (n : ℕ) (rows : List Row)
      → AreFilled rows → AreFilled (with_count id how s n rows)
  filled_count id how s n rows h =
      filled_change id (new_count s n) _ rows
      (λ r k. ((λ e. some_last r.values (count_text n)), tt)) ((λ e. tt), tt) h

  filled_as : (action : ArgAction) (id : Text) (how : Reading) (vs : List Text) (rows : List Row)
      → (bytes_eq id name ≡ true → HasSome vs) → AreFilled rows
      → AreFilled (used_as action id how vs rows)
  filled_as Set id how vs rows some h =
      filled_values id how CommandLine vs (without id rows) some (filled_without id rows h)
  filled_as SetTrue id how vs rows some h =
      filled_values id how CommandLine vs (without id rows) some (filled_without id rows h)
  filled_as SetFalse id how vs rows some h =
      filled_values id how CommandLine vs (without id rows) some (filled_without id rows h)
  filled_as Append id how vs rows some h = filled_values id how CommandLine vs rows some h
  filled_as Count id how [] rows some h =
      filled_count id how CommandLine (min (count_of id rows + 1) 255) (without id rows) (filled_without id rows h)
  filled_as Count id how (v ∷ vs) rows some h =
      filled_values id how CommandLine (v ∷ vs) (without id rows) some (filled_without id rows h)
  filled_as _ id how vs rows some h = h

  filled_used : (a : Rule) (vs : List Text) (rows : List Row)
      → (bytes_eq a.id name ≡ true → HasSome vs) → AreFilled rows → AreFilled (used a vs rows)
  filled_used a vs rows some h =
      filled_as (action_of a) a.id (reading_by a) (values_or_missing a vs) rows
      (λ e. some_or_missing a vs (some e)) h

  -- ---- what is held between two words

  abbrev IsReady : Option (Text × List Text) → Type 0
  IsReady None = ⊤
  IsReady (Some p) = bytes_eq p.0 name ≡ true → HasSome p.1

  abbrev Keeps : Held → Type 0
  Keeps h = AreFilled h.rows × IsReady h.pending

  filled_settled : (c : List Rule) (p : Option (Text × List Text)) (rows : List Row) → IsReady p
      → AreFilled rows → AreFilled (settled_rows c p rows)
  filled_settled c None rows ready h = h
  filled_settled c (Some p) rows ready h = go (arg_by_id c p.0) refl
    where
      go : (o : Option Rule) → arg_by_id c p.0 ≡ o → AreFilled (used_by_id o p.1 rows)
      go None e = h
      go (Some a) e =
          let same : a.id ≡ p.0 = (bytes_eq-Decides a.id p.0).0
          (found_passes (λ b. bytes_eq b.id p.0) c a e) in
          filled_used a p.1 rows (λ is. ready (ap (λ id. bytes_eq id name) (sym same) ∙ is)) h

  module _ (c : List Rule) (placed : list_all (is_placed name) c ≡ true) where
    abbrev IsApart : Rule → Type 0
    IsApart a = bytes_eq a.id name ≡ true → ⊥

    -- an option has another name
    apart : (test : Rule → Bool) (a : Rule)
        → find (λ b. not (is_some b.index) && test b) c ≡ Some a → IsApart a
    apart test a e is =
        go (is_some a.index) (bytes_eq a.id name)
        (both _ _ (found_passes (λ b. not (is_some b.index) && test b) c a e)).0
        (found_among (is_placed name) (λ b. not (is_some b.index) && test b) c a placed e) is
      where
        go : (by_place same : Bool) → not by_place ≡ true → (by_place || not same) ≡ true
            → same ≡ true → ⊥
        go true same h p is = true≢false (sym h)
        go false true h p is = true≢false (sym p)
        go false false h p is = true≢false (sym is)

    kept_settled : (h : Held) → Keeps h → Keeps (settled c h)
    kept_settled h k = (filled_settled c h.pending h.rows k.1 k.0, tt)

    kept_reacted : (a : Rule) (vs : List Text) (h : Held)
        → (bytes_eq a.id name ≡ true → HasSome vs) → Keeps h → Keeps (reacted c a vs h)
    kept_reacted a vs h some k =
        (filled_used a vs (settled c h).rows some (kept_settled h k).0, tt)

    kept_pushed : (id word : Text) (h : Held) → Keeps h → Keeps (pushed id word h)
    kept_pushed id word h k = (k.0, λ _. some_last (started id h.pending).1 word)

    kept_option : (a : Rule) (v : Option Text) (h : Held) → IsApart a → Keeps h
        → Keeps (option_met c a v h).0
    kept_option a (Some v) h other k = kept_reacted a (v ∷ []) h (λ _. tt) k
    kept_option a None h other k = ((kept_settled h k).0, λ is. absurd (other is))

    kept_flag : (a : Rule) (v : Option Text) (h : Held) → IsApart a → Keeps h
        → Keeps (flag_met c a v h).0
    kept_flag a (Some v) h other k = k
    kept_flag a None h other k = kept_reacted a [] h (λ is. absurd (other is)) k

    kept_long : (o : Option Rule) (v : Option Text) (h : Held)
        → ((a : Rule) → o ≡ Some a → IsApart a) → Keeps h → Keeps (long_met c o v h).0
    kept_long None v h other k = k
    kept_long (Some a) v h other k = go (takes_values a)
      where
        go : (b : Bool) → Keeps (cond b (option_met c a v h) (flag_met c a v h)).0
        go true = kept_option a v h (other a refl) k
        go false = kept_flag a v h (other a refl) k

    kept_short : (o : Option Rule) (rest : Text) (h : Held) (step : Held → Held × Outcome)
        → ((a : Rule) → o ≡ Some a → IsApart a)
        → ((g : Held) → Keeps g → Keeps (step g).0) → Keeps h → Keeps (short_met c o rest h step).0
    kept_short None rest h step other later k = k
    kept_short (Some a) rest h step other later k = go (takes_values a)
      where
        go : (b : Bool)
            → Keeps (cond b (option_met c a (attached_value rest) h) (step (reacted c a [] h))).0
        go true = kept_option a (attached_value rest) h (other a refl) k
        go false =
            later (reacted c a [] h) (kept_reacted a [] h (λ is. absurd (other a refl is)) k)

    kept_character : (o : Option ℕ) (flags : Text) (skip : ℕ) (so_far : Outcome) (h : Held)
        (step : Text → ℕ → Outcome → Held → Held × Outcome)
        → ((rest : Text) (n : ℕ) (to : Outcome) (g : Held) → Keeps g → Keeps (step rest n to g).0)
        → Keeps h → Keeps (bundle_step c o flags skip so_far h step).0
    kept_character None flags skip so_far h step later k = k
    kept_character (Some x) flags zero so_far h step later k =
        let rest = drop (length (encode_utf8 x)) flags in
        kept_short (arg_by_short c x) rest h (step rest 0 done) (λ a e. apart _ a e)
        (later rest 0 done) k
    kept_character (Some x) flags (suc skip) so_far h step later k =
        later (drop (length (encode_utf8 x)) flags) skip so_far h k

    kept_bundle : (n : ℕ) (flags : Text) (skip : ℕ) (so_far : Outcome) (h : Held) → Keeps h
        → Keeps (bundle_met c n flags skip so_far h).0
    unfolding bundle_met
    kept_bundle zero flags skip so_far h k = k
    kept_bundle (suc n) flags skip so_far h k =
        kept_character (slice_get (chars flags) 0) flags skip so_far h (bundle_met c n)
        (kept_bundle n) k

    -- ---- one word

    kept_value : (o : Option Rule) (id word : Text) (h : Held) → Keeps h
        → Keeps (option_word o id word h).0
    kept_value None id word h k = k
    kept_value (Some a) id word h k = kept_pushed id word h k

    kept_plain : (waiting : Waiting) (word : Text) (h : Held) → Keeps h
        → Keeps (plain_word c waiting word h).0
    kept_plain (option id) word h k = kept_value (arg_by_id c id) id word h k
    kept_plain idle word h k = k
    kept_plain positional word h k = k

    kept_after : (waiting : Waiting) (word : Text) (h : Held) (outcome : Outcome) → Keeps h
        → Keeps (after_flag c waiting word h outcome).0
    kept_after waiting word h done k = k
    kept_after waiting word h (waits id) k = k
    kept_after waiting word h plain k = kept_plain waiting word h k
    kept_after waiting word h refused k = kept_plain waiting word h k

    kept_short_word : (waiting : Waiting) (word : Text) (o : Option Text) (h : Held) → Keeps h
        → Keeps (short_or_plain c waiting word o h).0
    kept_short_word waiting word (Some flags) h k =
        kept_after waiting word (bundle c flags h).0 (bundle c flags h).1
        (kept_bundle (length flags) flags h.skip plain (record h { skip = 0 }) k)
    kept_short_word waiting word None h k = kept_plain waiting word h k

    kept_long_word : (waiting : Waiting) (word : Text) (o : Option (Text × Option Text)) (h : Held)
        → Keeps h → Keeps (long_or_other c waiting word o h).0
    kept_long_word waiting word (Some p) h k =
        let met = long_met c (arg_by_long c p.0) p.1 h in
        kept_after waiting word met.0 met.1
        (kept_long (arg_by_long c p.0) p.1 h (λ a e. apart _ a e) k)
    kept_long_word waiting word None h k = kept_short_word waiting word (short_of word) h k

    kept_other : (o : Option Text) (waiting : Waiting) (place : ℕ) (word : Text) (h : Held)
        → Keeps h → Keeps (subcommand_or_other c o waiting place word h).0
    kept_other (Some met) waiting place word h k = k
    kept_other None waiting place word h k = go (bytes_eq word (45 ∷ 45 ∷ []))
      where
        go : (b : Bool)
            → Keeps (cond b (h, trailing place) (long_or_other c waiting word (long_of word) h)).0
        go true = k
        go false = kept_long_word waiting word (long_of word) h k

    kept_word : (names : Names) (is_trailing : Bool) (waiting : Waiting) (place : ℕ) (word : Text)
        (h : Held) → Keeps h → Keeps (word_met c names is_trailing waiting place word h).0
    kept_word names true waiting place word h k = k
    kept_word names false waiting place word h k =
        kept_other (subcommand_met names waiting word) waiting place word h k

    kept_placed : (a : Rule) (word : Text) (h : Held) → Keeps h
        → Keeps (positional_held c a word h)
    kept_placed a word h k = go (is_pending a h.pending && takes_several a)
      where
        go : (b : Bool) → Keeps (pushed a.id word (cond b h (settled c h)))
        go true = kept_pushed a.id word h k
        go false = kept_pushed a.id word (settled c h) (kept_settled h k)

    kept_position : (o : Option Rule) (word : Text) (w : Walk) (h : Held) → Keeps h
        → Keeps (to_positional c o word w h).held
    kept_position None word w h k = k
    kept_position (Some a) word w h k = kept_placed a word h k

    kept_step : (word : Text) (w : Walk) (h : Held) (step : Step) → Keeps h
        → Keeps (after_step c word w h step).held
    kept_step word w h (next waiting) k = k
    kept_step word w h (trailing place) k = k
    kept_step word w h (subcommand met) k = k
    kept_step word w h value k = kept_position (arg_by_index c w.position) word w h k

    -- ---- the words

    kept_from : (names : Names) (stopped : Option (Text × List Text)) (w : Walk) (word : Text)
        → Keeps w.held → Keeps (walked_from c names stopped w word).held
    kept_from names (Some p) w word k = k
    kept_from names None w word k =
        let met = word_met c names w.is_trailing w.waiting w.position word w.held in
        kept_step word w met.0 met.1
        (kept_word names w.is_trailing w.waiting w.position word w.held k)

    kept_walk : (names : Names) (words : List Text) (w : Walk) → Keeps w.held
        → Keeps (fold (walked c names) w words).held
    unfolding walked
    kept_walk names [] w k = k
    kept_walk names (word ∷ words) w k =
        kept_walk names words (walked c names w word) (kept_from names w.stopped w word k)

    filled_default : (a : Rule) (rows : List Row) → AreFilled rows → AreFilled (with_default rows a)
    filled_default a rows h = go (has_row a.id rows) a.defaults
      where
        go : (b : Bool) (vs : List Text)
            → AreFilled (cond b rows (default_rows a.id (reading_by a) vs rows))
        go true vs = h
        go false [] = h
        go false (v ∷ vs) =
            filled_values a.id (reading_by a) DefaultValue (v ∷ vs) rows (λ _. tt) h

    filled_defaults : (rules : List Rule) (rows : List Row) → AreFilled rows
        → AreFilled (fold with_default rows rules)
    filled_defaults [] rows h = h
    filled_defaults (a ∷ rules) rows h =
        filled_defaults rules (with_default rows a) (filled_default a rows h)

    filled_end : (names : Names) (h : Held) (words : List Text) → Keeps h
        → AreFilled (finished c (walk c names h words).held)
    filled_end names h words k =
        let end = kept_walk names words (walk_from h) k in
        filled_defaults c _ (kept_settled (walk c names h words).held end).0

  -- a word that is given has a first value
  first_of_filled : (rows : List Row) → AreFilled rows → is_given name rows ≡ true
      → (text : Text) × (first_of name rows ≡ Some text)
  first_of_filled [] h e = absurd (true≢false (sym e))
  first_of_filled (r ∷ rows) h e = go (bytes_eq r.id name) refl e (first_of_filled rows h.1)
    where
      go : (b : Bool) → bytes_eq r.id name ≡ b
          → option_map_or (λ s. explicit_source s.source)
          (cond b (Some r) (find (λ s. bytes_eq s.id name) rows)) false ≡ true
          → (is_given name rows ≡ true → (text : Text) × (first_of name rows ≡ Some text))
          → (text : Text) × (option_and_then (λ s. slice_get s.values 0)
          (cond b (Some r) (find (λ s. bytes_eq s.id name) rows)) ≡ Some text)
      go true is e later = first_some r.values (h.0 is)
      go false is e later = later e

-- a word of the command's that clap finds given has a first value
pub given_first : (name : Text) (c : List Rule) (names : Names) (h : Held) (words : List Text)
    → list_all (is_placed name) c ≡ true → h.rows ≡ [] → h.pending ≡ None
    → is_given name (finished c (walk c names h words).held) ≡ true
    → (text : Text) × (first_of name (finished c (walk c names h words).held) ≡ Some text)
given_first name c names h words placed none still given =
    first_of_filled name _ (filled_end name c placed names h words
    (subst (AreFilled name) (sym none) tt, subst (IsReady name) (sym still) tt)) given
