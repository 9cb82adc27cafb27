-- Parts that are put together.
use Rattle.std.proofs.Common.{◌≡◌, ℕ, ◌+◌, ◌<◌, ◌≤◌, Bool, true, false, cond, ◌&&◌, ◌||◌, ◌⊎◌, inl, inr, List, [], ◌∷◌, ◌++◌, length, reverse, get_or, refl, ap, sym, subst, ◌∙◌, arith, length-append}
use Rattle.std.specs.List.{All}
use Rattle.std.proofs.lemmas.Bool.{cases_lt}
use Rattle.std.proofs.lemmas.List.{reverse-append, length-reverse}
use Rattle.regex_reader.proofs.Tables.{or_assoc}
use Rattle.expression_theory.specs.Expression.{Tree, Or, Cat, Star, Plus, Opt, Means}
use Rattle.expression_theory.specs.Positions.{positions, numbered, Follows}
use Rattle.expression_theory.specs.FirstLast.{has_word, has_empty, firsts, lasts, has, follows}
use Rattle.expression_theory.specs.Polish.{built, arity, trees, letters, positions_among, follows_among}
use Rattle.expression_theory.proofs.Exchange.{between}
use Rattle.expression_theory.proofs.Polish.{letters_append, positions_counted}
use Rattle.expression_theory.proofs.FirstLast.{has_word_decides, has_empty_decides, follows_decide}
use Rattle.expression_theory.proofs.Sizes.{firsts_below, lasts_below}
use Rattle.expression_theory.proofs.Exchange.{ends_at}
use Rattle.regex_reader.specs.Marks.{Table, is_marked, IsAdded, IsCleared}
use Rattle.regex_reader.specs.Parts.{IsPart, AreParts, IsFollowing, IsEvaluated, CanCombine, HasCombined, CanJoin, HasJoined, CanRepeat, HasRepeated, CanRead, Summary}
use Rattle.expression_theory.specs.declared.notation.Node.TheVariants as node
use Rattle.expression_theory.specs.declared.notation.Node.{Node}

either_way : (b : Bool) → (b ≡ true) ⊎ (b ≡ false)
either_way true = inl refl
either_way false = inr refl

-- positions that are not of the tree follow nothing in it
follows_out : (n : ℕ) (t : Tree) (p q : ℕ) → (p < n) ⊎ (n + length (positions t) ≤ p)
    → follows (numbered n t) p q ≡ false
follows_out n t p q out = by (either_way (follows (numbered n t) p q)) out
  where
    no : (n ≤ p) × (p < n + length (positions t)) → (p < n) ⊎ (n + length (positions t) ≤ p)
        → follows (numbered n t) p q ≡ false
    no (b, c) (inl h) = absurd (omega arith)
    no (b, c) (inr h) = absurd (omega arith)

    by : (follows (numbered n t) p q ≡ true) ⊎ (follows (numbered n t) p q ≡ false)
        → (p < n) ⊎ (n + length (positions t) ≤ p) → follows (numbered n t) p q ≡ false
    by (inr e) o = e
    by (inl e) o = let f : Follows (Means (numbered n t)) p q =
        (follows_decide (numbered n t) p q).0 e in no (between n t p f.0 (q ∷ f.1) f.2) o

among_out : (ts : List Tree) (n p q : ℕ) → p < n → follows_among n ts p q ≡ false
among_out [] n p q h = refl
among_out (t ∷ ts) n p q h =
    ap (λ b. b || follows_among (n + length (positions t)) ts p q) (follows_out n t p q (inl h))
    ∙ among_out ts (n + length (positions t)) p q (omega arith)

live_bools : (a b c x : Bool) → ((a || (b || c)) || x) ≡ (((a || b) || x) || c)
live_bools true b c x = refl
live_bools false true c x = refl
live_bools false false true true = refl
live_bools false false true false = refl
live_bools false false false true = refl
live_bools false false false false = refl

-- a concatenation whose parts have words
pub joined_live : (n : ℕ) (s t : Tree) (ts : List Tree) (l r k : Summary) (m m' : Table)
    → IsPart n s l → IsPart (n + length (positions s)) t r → IsFollowing n (s ∷ (t ∷ ts)) m →
    (l.has_word && r.has_word) ≡ true → IsAdded m m' (λ p q. has l.last p && has r.first q) →
    k.has_word ≡ true → k.has_empty ≡ (l.has_empty && r.has_empty) → k.is_closed ≡ false
    → k.positions ≡ l.positions + r.positions →
    k.first ≡ l.first ++ cond l.has_empty r.first [] → k.last ≡ cond r.has_empty l.last [] ++ r.last
    →
    IsPart n (Cat s t) k × IsFollowing n (Cat s t ∷ ts) m'
joined_live n s t ts l r k m m' hl hr f w add kw ke kc ks kf kl = (
  record {
    word = kw ∙ sym words;
    empty = ke ∙ ap (λ b. b && r.has_empty) hl.empty ∙ ap (λ b. has_empty s' && b) hr.empty;
    first =
        kf ∙ ap (λ xs. xs ++ cond l.has_empty r.first []) hl.first
        ∙ ap (λ b. firsts s' ++ cond b r.first []) hl.empty
        ∙ ap (λ xs. firsts s' ++ cond (has_empty s') xs []) hr.first
        ∙ sym (ap (λ b. cond b (firsts s' ++ cond (has_empty s') (firsts t') []) []) words);
    last =
        kl ∙ ap (λ xs. cond r.has_empty l.last [] ++ xs) hr.last
        ∙ ap (λ b. cond b l.last [] ++ lasts t') hr.empty
        ∙ ap (λ xs. cond (has_empty t') xs [] ++ lasts t') hl.last
        ∙ sym (ap (λ b. cond b (cond (has_empty t') (lasts s') [] ++ lasts t') []) words);
    positions = ks ∙ ap (λ i. i + r.positions) hl.positions
        ∙ ap (λ i. length (positions s) + i) hr.positions
        ∙ sym (length-append (positions s) (positions t));
    closed = λ e. absurd (let g : true ≡ false = sym e ∙ kc in cc);
  },
  λ p q a b.
      add.each p q (subst (λ i. p < i) add.width a) (subst (λ i. q < i) add.width b)
      ∙ ap (λ x. x || (has l.last p && has r.first q))
      (f p q (subst (λ i. p < i) add.width a) (subst (λ i. q < i) add.width b))
      ∙ ap (λ xs. (follows s' p q ||
      (follows t' p q || follows_among ((n + length (positions s)) + length (positions t)) ts p q))
      || (has xs p && has r.first q)) hl.last
      ∙ ap (λ xs. (follows s' p q ||
      (follows t' p q || follows_among ((n + length (positions s)) + length (positions t)) ts p q))
      || (has (lasts s') p && has xs q)) hr.first
      ∙ live_bools (follows s' p q) (follows t' p q)
      (follows_among ((n + length (positions s)) + length (positions t)) ts p q)
      (has (lasts s') p && has (firsts t') q)
      ∙ ap (λ i. ((follows s' p q || follows t' p q) || (has (lasts s') p && has (firsts t') q)) ||
      follows_among i ts p q) (ends_at n (positions s) (positions t))
      ∙ sym (ap (λ b. (b
      && ((follows s' p q || follows t' p q) || (has (lasts s') p && has (firsts t') q))) ||
      follows_among (n + length (positions s ++ positions t)) ts p q) words),
)
  where
    s' : Tree
    s' = numbered n s

    t' : Tree
    t' = numbered (n + length (positions s)) t

    words : (has_word (numbered n s) && has_word (numbered (n + length (positions s)) t)) ≡ true
    words = sym (ap (λ b. b && r.has_word) hl.word ∙ ap (λ b. has_word (numbered n s) && b) hr.word)
        ∙ w

no_empty : (t : Tree) → has_word t ≡ false → has_empty t ≡ false
no_empty t e = by (either_way (has_empty t))
  where
    by : (has_empty t ≡ true) ⊎ (has_empty t ≡ false) → has_empty t ≡ false
    by (inr f) = f
    by (inl f) = absurd (let g : has_word t ≡ true =
        (has_word_decides t).1 ([], (has_empty_decides t).0 f) in let h : true ≡ false = sym g
        ∙ e in cc)

-- a tree without words has not the empty word, and nothing begins or ends
dead_empty : (s t : Tree) → (has_word s && has_word t) ≡ false
    → (has_empty s && has_empty t) ≡ false
dead_empty s t e = no_empty (Cat s t) e

-- a concatenation in which a part has no word
pub joined_dead : (n : ℕ) (s t : Tree) (ts : List Tree) (l r k : Summary) (m m' : Table)
    → IsPart n s l → IsPart (n + length (positions s)) t r → IsFollowing n (s ∷ (t ∷ ts)) m →
    (l.has_word && r.has_word) ≡ false → IsCleared m m' n (n + (l.positions + r.positions)) →
    k.has_word ≡ false → k.has_empty ≡ false → k.positions ≡ l.positions + r.positions
    → k.first ≡ [] → k.last ≡ [] →
    IsPart n (Cat s t) k × IsFollowing n (Cat s t ∷ ts) m'
joined_dead n s t ts l r k m m' hl hr f w cleared kw ke ks kf kl = (
  record {
    word = kw ∙ sym words;
    empty = ke ∙ sym (dead_empty s' t' words);
    first = kf ∙ sym (ap (λ b. cond b (firsts s' ++ cond (has_empty s') (firsts t') []) []) words);
    last = kl ∙ sym (ap (λ b. cond b (cond (has_empty t') (lasts s') [] ++ lasts t') []) words);
    positions = count;
    closed = λ e p q h. absurd (let g : true ≡ false = sym h
        ∙ ap (λ b. has (cond b (cond (has_empty t') (lasts s') [] ++ lasts t') []) p && has
        (firsts (Cat s' t')) q) words in cc);
  },
  λ p q a b. by p q (subst (λ i. p < i) cleared.width a) (subst (λ i. q < i) cleared.width b)
      (cases_lt p n) (cases_lt p (n + (l.positions + r.positions))),
)
  where
    s' : Tree
    s' = numbered n s

    t' : Tree
    t' = numbered (n + length (positions s)) t

    words : (has_word (numbered n s) && has_word (numbered (n + length (positions s)) t)) ≡ false
    words = sym (ap (λ b. b && r.has_word) hl.word ∙ ap (λ b. has_word (numbered n s) && b) hr.word)
        ∙ w

    count : k.positions ≡ length (positions s ++ positions t)
    count = ks ∙ ap (λ i. i + r.positions) hl.positions
        ∙ ap (λ i. length (positions s) + i) hr.positions
        ∙ sym (length-append (positions s) (positions t))

    -- the goal's right side is what the other trees say
    rest : (p q : ℕ) → follows_among n (Cat s t ∷ ts) p q ≡ follows_among
        (n + length (positions s ++ positions t)) ts p q
    rest p q =
        ap (λ b. (b && ((follows (numbered n s) p q || follows
        (numbered (n + length (positions s)) t) p q) ||
        (has (lasts (numbered n s)) p && has (firsts (numbered (n + length (positions s)) t))
        q))) || follows_among (n + length (positions s ++ positions t)) ts p q)
        (sym (ap (λ b. b && r.has_word) hl.word ∙ ap (λ b. has_word (numbered n s) && b) hr.word)
        ∙ w)

    -- outside of both parts nothing is changed, and they say nothing
    outside : (p q : ℕ) → p < m.width → q < m.width → is_marked m' p q ≡ is_marked m p q
        → (p < n) ⊎ (n + (l.positions + r.positions) ≤ p)
        → is_marked m' p q ≡ follows_among n (Cat s t ∷ ts) p q
    outside p q a b same out =
        same ∙ f p q a b
        ∙ ap (λ x. x || (follows (numbered (n + length (positions s)) t) p q || follows_among
        ((n + length (positions s)) + length (positions t)) ts p q))
        (follows_out n s p q (left out))
        ∙ ap (λ x. x || follows_among ((n + length (positions s)) + length (positions t)) ts p q)
        (follows_out (n + length (positions s)) t p q (right out))
        ∙ ap (λ i. follows_among i ts p q) (ends_at n (positions s) (positions t)) ∙ sym (rest p q)
      where
        left : (p < n) ⊎ (n + (l.positions + r.positions) ≤ p)
            → (p < n) ⊎ (n + length (positions s) ≤ p)
        left (inl h) = inl h
        left (inr h) = let e = hl.positions in inr (omega arith)

        right : (p < n) ⊎ (n + (l.positions + r.positions) ≤ p) → (p < n + length (positions s))
            ⊎ ((n + length (positions s)) + length (positions t) ≤ p)
        right (inl h) = inl (omega arith)
        right (inr h) = let e = hl.positions in let g = hr.positions in inr (omega arith)

    by : (p q : ℕ) → p < m.width → q < m.width → (p < n) ⊎ (n ≤ p)
        → (p < n + (l.positions + r.positions)) ⊎ (n + (l.positions + r.positions) ≤ p)
        → is_marked m' p q ≡ follows_among n (Cat s t ∷ ts) p q
    by p q a b (inl h) g = outside p q a b (cleared.before p q h b) (inl h)
    by p q a b (inr h) (inr g) = outside p q a b (cleared.behind p q g a b) (inr g)
    by p q a b (inr h) (inl g) =
        let e = hl.positions in let e' = hr.positions in
        cleared.inside p q h g b
        ∙ sym (rest p q ∙ among_out ts (n + length (positions s ++ positions t)) p q
        (omega (arith, length-append (positions s) (positions t))))

-- a union
pub united : (n : ℕ) (s t : Tree) (l r k : Summary) → IsPart n s l
    → IsPart (n + length (positions s)) t r →
    k.has_word ≡ (l.has_word || r.has_word) → k.has_empty ≡ (l.has_empty || r.has_empty)
    → k.is_closed ≡ false → k.positions ≡ l.positions + r.positions →
    k.first ≡ l.first ++ r.first → k.last ≡ l.last ++ r.last → IsPart n (Or s t) k
united n s t l r k hl hr kw ke kc ks kf kl = record {
  word = kw ∙ ap (λ b. b || r.has_word) hl.word ∙ ap (λ b. has_word (numbered n s) || b) hr.word;
  empty = ke ∙ ap (λ b. b || r.has_empty) hl.empty
      ∙ ap (λ b. has_empty (numbered n s) || b) hr.empty;
  first = kf ∙ ap (λ xs. xs ++ r.first) hl.first ∙ ap (λ xs. firsts (numbered n s) ++ xs) hr.first;
  last = kl ∙ ap (λ xs. xs ++ r.last) hl.last ∙ ap (λ xs. lasts (numbered n s) ++ xs) hr.last;
  positions = ks ∙ ap (λ i. i + r.positions) hl.positions
      ∙ ap (λ i. length (positions s) + i) hr.positions
      ∙ sym (length-append (positions s) (positions t));
  closed = λ e. absurd (let g : true ≡ false = sym e ∙ kc in cc);
}

-- as many parts as trees
pub count_parts : (n : ℕ) (ts : List Tree) (rs : List Summary) → AreParts n ts rs
    → length rs ≡ length ts
count_parts n [] [] h = refl
count_parts n [] (r ∷ rs) h = absurd h
count_parts n (t ∷ ts) [] h = absurd h
count_parts n (t ∷ ts) (r ∷ rs) (h, k) = let e = count_parts (n + length (positions t)) ts rs k in
    omega arith

-- the two parts of a concatenation fit into the table
pub can_join : (n : ℕ) (xs ys : List Summary) (l r : Summary) (m : Table) → CanCombine 2 n xs m
    → reverse xs ≡ l ∷ (r ∷ reverse ys) → CanJoin n l r m
can_join n xs ys l r m h e =
    by h.trees (subst (AreParts n h.trees) e h.evaluated.known) h.evaluated.end
  where
    by : (ts : List Tree) → AreParts n ts (l ∷ (r ∷ reverse ys)) → n + positions_among ts ≡ m.width
        → CanJoin n l r m
    by [] k end = absurd k
    by (s ∷ []) (hl, k) end = absurd k
    by (s ∷ (t ∷ us)) (hl, (hr, k)) end =
        let i = hl.positions in let j = hr.positions in
        record {
          narrow = h.narrow;
          room = omega arith;
          last = subst (All (λ p. p < m.width)) (sym hl.last)
              (lasts_below n m.width s (omega arith));
          first = subst (All (λ p. p < m.width)) (sym hr.first)
              (firsts_below (n + length (positions s)) m.width t (omega arith));
        }

-- the part before a postfix sign fits into the table
pub can_repeat : (n : ℕ) (xs ys : List Summary) (r : Summary) (m : Table) → CanCombine 1 n xs m
    → reverse xs ≡ r ∷ reverse ys → CanRepeat r m
can_repeat n xs ys r m h e =
    by h.trees (subst (AreParts n h.trees) e h.evaluated.known) h.evaluated.end
  where
    by : (ts : List Tree) → AreParts n ts (r ∷ reverse ys) → n + positions_among ts ≡ m.width
        → CanRepeat r m
    by [] k end = absurd k
    by (t ∷ ts) (hr, k) end = record {
      last = subst (All (λ p. p < m.width)) (sym hr.last) (lasts_below n m.width t (omega arith));
      first = subst (All (λ p. p < m.width)) (sym hr.first)
          (firsts_below n m.width t (omega arith));
    }

-- the part that was put together is the first of all
pushed : (n : ℕ) (t : Tree) (ts : List Tree) (k : Summary) (ys zs : List Summary)
    → zs ≡ ys ++ k ∷ [] → IsPart n t k → AreParts (n + length (positions t)) ts (reverse ys)
    → AreParts n (t ∷ ts) (reverse zs)
pushed n t ts k ys zs z h g =
    subst (AreParts n (t ∷ ts)) (sym (ap reverse z ∙ reverse-append ys (k ∷ []))) (h, g)

or_marks : (n : ℕ) (s t : Tree) (ts : List Tree) (m : Table) → IsFollowing n (s ∷ (t ∷ ts)) m
    → IsFollowing n (Or s t ∷ ts) m
or_marks n s t ts m f p q a b =
    let s' = numbered n s in
    let t' = numbered (n + length (positions s)) t in
    f p q a b ∙ sym (or_assoc (follows s' p q) (follows t' p q)
    (follows_among ((n + length (positions s)) + length (positions t)) ts p q))
    ∙ ap (λ i. (follows s' p q || follows t' p q) || follows_among i ts p q)
    (ends_at n (positions s) (positions t))

-- the union of the first two parts
pub combine_or : (n : ℕ) (xs ys zs : List Summary) (l r k : Summary) (m : Table)
    → reverse xs ≡ l ∷ (r ∷ reverse ys) → zs ≡ ys ++ k ∷ [] →
    k.has_word ≡ (l.has_word || r.has_word) → k.has_empty ≡ (l.has_empty || r.has_empty)
    → k.is_closed ≡ false → k.positions ≡ l.positions + r.positions →
    k.first ≡ l.first ++ r.first → k.last ≡ l.last ++ r.last → HasCombined node.Or n xs m n zs m
combine_or n xs ys zs l r k m e z kw ke kc ks kf kl =
    λ ts h v. by ts (subst (AreParts n ts) e v.known) v.end v.marks
  where
    by : (ts : List Tree) → AreParts n ts (l ∷ (r ∷ reverse ys)) → n + positions_among ts ≡ m.width
        → IsFollowing n ts m → IsEvaluated (built node.Or ts) n zs m
    by [] h end f = absurd h
    by (s ∷ []) (hl, h) end f = absurd h
    by (s ∷ (t ∷ us)) (hl, (hr, h)) end f = record {
      known = pushed n (Or s t) us k ys zs z (united n s t l r k hl hr kw ke kc ks kf kl)
          (subst (λ i. AreParts i us (reverse ys)) (ends_at n (positions s) (positions t)) h);
      end = omega (arith, length-append (positions s) (positions t));
      marks = or_marks n s t us m f;
    }

-- the concatenation of the first two parts
pub combine_cat : (n : ℕ) (xs ys zs : List Summary) (l r k : Summary) (m m' : Table)
    → reverse xs ≡ l ∷ (r ∷ reverse ys) → zs ≡ ys ++ k ∷ [] → HasJoined n l r m k m'
    → m'.width ≡ m.width →
    HasCombined node.Cat n xs m n zs m'
combine_cat n xs ys zs l r k m m' e z joined w =
    λ ts h v. by ts (subst (AreParts n ts) e v.known) v.end v.marks
  where
    by : (ts : List Tree) → AreParts n ts (l ∷ (r ∷ reverse ys)) → n + positions_among ts ≡ m.width
        → IsFollowing n ts m → IsEvaluated (built node.Cat ts) n zs m'
    by [] h end f = absurd h
    by (s ∷ []) (hl, h) end f = absurd h
    by (s ∷ (t ∷ us)) (hl, (hr, h)) end f =
        let j = joined s t us hl hr f in
        record {
          known = pushed n (Cat s t) us k ys zs z j.0
              (subst (λ i. AreParts i us (reverse ys)) (ends_at n (positions s) (positions t)) h);
          end = omega (arith, length-append (positions s) (positions t));
          marks = j.1;
        }

-- the first part once or more
pub combine_plus : (n : ℕ) (xs ys zs : List Summary) (r k : Summary) (m m' : Table)
    → reverse xs ≡ r ∷ reverse ys → zs ≡ ys ++ k ∷ [] → HasRepeated r m k m' → m'.width ≡ m.width →
    HasCombined node.Plus n xs m n zs m'
combine_plus n xs ys zs r k m m' e z repeated w =
    λ ts h v. by ts (subst (AreParts n ts) e v.known) v.end v.marks
  where
    by : (ts : List Tree) → AreParts n ts (r ∷ reverse ys) → n + positions_among ts ≡ m.width
        → IsFollowing n ts m → IsEvaluated (built node.Plus ts) n zs m'
    by [] h end f = absurd h
    by (t ∷ us) (hr, h) end f = let j = repeated n t us hr f in
        record { known = pushed n (Plus t) us k ys zs z j.0 h; end = end ∙ sym w; marks = j.1 }

-- once or more, or not at all, is any number of times
as_star : (n : ℕ) (t : Tree) (k : Summary) → IsPart n (Opt (Plus t)) k → IsPart n (Star t) k
as_star n t k h = record {
  word = h.word;
  empty = h.empty;
  first = h.first;
  last =
      h.last;
  positions = h.positions;
  closed = h.closed;
}

-- the first part any number of times
pub combine_star : (n : ℕ) (xs ys zs : List Summary) (r j k : Summary) (m m' : Table)
    → reverse xs ≡ r ∷ reverse ys → zs ≡ ys ++ k ∷ [] → HasRepeated r m j m' → m'.width ≡ m.width →
    ((n : ℕ) (t : Tree) → IsPart n t j → IsPart n (Opt t) k) → HasCombined node.Star n xs m n zs m'
combine_star n xs ys zs r j k m m' e z repeated w opt =
    λ ts h v. by ts (subst (AreParts n ts) e v.known) v.end v.marks
  where
    by : (ts : List Tree) → AreParts n ts (r ∷ reverse ys) → n + positions_among ts ≡ m.width
        → IsFollowing n ts m → IsEvaluated (built node.Star ts) n zs m'
    by [] h end f = absurd h
    by (t ∷ us) (hr, h) end f =
        let i = repeated n t us hr f in
        record {
          known = pushed n (Star t) us k ys zs z (as_star n t k (opt n (Plus t) i.0)) h;
          end = end ∙ sym w;
          marks = i.1;
        }

-- the first part once or not
pub combine_opt : (n : ℕ) (xs ys zs : List Summary) (r k : Summary) (m : Table)
    → reverse xs ≡ r ∷ reverse ys → zs ≡ ys ++ k ∷ [] →
    ((n : ℕ) (t : Tree) → IsPart n t r → IsPart n (Opt t) k) → HasCombined node.Opt n xs m n zs m
combine_opt n xs ys zs r k m e z opt =
    λ ts h v. by ts (subst (AreParts n ts) e v.known) v.end v.marks
  where
    by : (ts : List Tree) → AreParts n ts (r ∷ reverse ys) → n + positions_among ts ≡ m.width
        → IsFollowing n ts m → IsEvaluated (built node.Opt ts) n zs m
    by [] h end f = absurd h
    by (t ∷ us) (hr, h) end f =
        record { known = pushed n (Opt t) us k ys zs z (opt n t hr) h; end = end; marks = f }

-- enough parts
pub enough_parts : (count n : ℕ) (xs : List Summary) (m : Table) → CanCombine count n xs m
    → count ≤ length xs
enough_parts count n xs m h = let e = count_parts n h.trees (reverse xs) h.evaluated.known in
    let f = h.many in omega (arith, length-reverse xs)

-- a node that is read
pub read_on : (ns : List Node) (x : Node) (n k : ℕ) (xs ys : List Summary) (m m' : Table)
    → CanRead ns n xs m → get_or ns 0 node.Zero ≡ x → HasCombined x n xs m k ys m'
    → IsEvaluated (trees ns) k ys m'
read_on [] x n k xs ys m m' h e c = absurd (let s : 0 < 0 = h.some in omega arith)
read_on (y ∷ ns) x n k xs ys m m' h e c =
    let f : arity y ≤ length (trees ns) = h.notation.0 in
    subst (λ z. IsEvaluated (built z (trees ns)) k ys m') (sym e)
    (c (trees ns) (subst (λ z. arity z ≤ length (trees ns)) e f) h.behind)

-- there is a number left for a position
pub position_left : (ns : List Node) (n : ℕ) (xs : List Summary) (m : Table) → CanRead ns n xs m
    → 1 ≤ n
position_left [] n xs m h = absurd (let s : 0 < 0 = h.some in omega arith)
position_left (y ∷ ns) n xs m h =
    let e : positions_among (trees ns) ≡ length (letters ns) = positions_counted ns h.notation.1 in
    let f : n + positions_among (trees ns) ≡ m.width = h.behind.end in
    let g : length (letters (y ∷ ns)) ≡ length (letters (y ∷ [])) + length (letters ns) =
    ap length (letters_append (y ∷ []) ns) ∙ length-append (letters (y ∷ [])) (letters ns) in
    let r : length (letters (y ∷ ns)) < m.width = h.room in
    omega arith
