-- What fails in a table of products fails on words.
use Rattle.std.proofs.Common.{◌≡◌, ◌↔◌, ℕ, ◌<◌, List, ◌++◌, length, sym, subst, ◌∙◌, append_assoc, arith}
use Rattle.language_theory.specs.Words.{Over, word_at}
use Rattle.language_theory.specs.Congruence.{IsCongruence}
use Rattle.language_theory.specs.Representatives.{AreRepresentatives}
use Rattle.monoid_theory.specs.Green.{IsIdempotent}
use Rattle.monoid_theory.specs.Products.{IsProduct}
use Rattle.language_theory.proofs.Shortlex.{over_append}
use Rattle.parallel_table.specs.ProductTables.{ProductTable, cell}
use Rattle.local_submonoids.specs.LocalSubmonoids.{local, Commute, GiveOne}
use Rattle.local_submonoids.specs.Witness.{IsFirstRepeat, IsFirstSwap}
use Rattle.local_submonoids.specs.LocalTables.{local_element, IsIdempotentElement, CommuteAt, IsLeastRepeatAt, IsLeastSwapAt, HasNoRepeat, HasNoSwap}
use Rattle.local_submonoids.proofs.LocalWords.{join, local_moves, idempotent_moves, commute_moves, local_over}

-- the elements are the places of the listed words, and the table has their products
pub record IsProductTable (same : List ℕ → List ℕ → Type 0) (words : List (List ℕ))
    (p : ProductTable) : Type 0 where
  pub side : p.side ≡ length words
  pub each : (i j : ℕ) → i < length words → j < length words
      → IsProduct same words i j (cell p i j)

module _ (k : ℕ) (same : List ℕ → List ℕ → Type 0) (c : IsCongruence k same) where
  module _ (words : List (List ℕ)) (r : AreRepresentatives k same words) where
    listed : (i : ℕ) → i < length words → Over k (word_at words i)
    listed = r.over

    -- elements whose words are related are one
    pub one_element : (i j : ℕ) → i < length words → j < length words
        → same (word_at words i) (word_at words j) → i ≡ j
    one_element i j li lj s =
        let (q, place) = r.place (word_at words j) (listed j lj) in
        place.only i li s
        ∙ sym (place.only j lj (c.equivalence.refl (word_at words j) (listed j lj)))

    module _ (p : ProductTable) (t : IsProductTable same words p) where
      product_within : (i j : ℕ) → i < length words → j < length words → cell p i j < length words
      product_within i j li lj = (t.each i j li lj).place.within

      -- the word of a product is related to the product of words that are related to the factors
      pub product_word : (i j : ℕ) (u v : List ℕ) → i < length words → j < length words → Over k u
          → Over k v → same (word_at words i) u → same (word_at words j) v
          → same (word_at words (cell p i j)) (u ++ v)
      product_word i j u v li lj ou ov f g =
          let oi = listed i li in
          let oj = listed j lj in
          c.equivalence.trans (word_at words (cell p i j)) (word_at words i ++ word_at words j)
          (u ++ v) (listed (cell p i j) (product_within i j li lj))
          (over_append k (word_at words i) (word_at words j) oi oj) (over_append k u v ou ov)
          (t.each i j li lj).place.related
          (join k same c (word_at words i) u (word_at words j) v oi ou oj ov f g)

      -- products are equal exactly where the products of words are related
      equal_products : (i j m n : ℕ) (u v x y : List ℕ) → i < length words → j < length words
          → m < length words → n < length words → Over k u → Over k v → Over k x → Over k y
          → same (word_at words i) u → same (word_at words j) v → same (word_at words m) x
          → same (word_at words n) y → (cell p i j ≡ cell p m n) ↔ same (u ++ v) (x ++ y)
      equal_products i j m n u v x y li lj lm ln ou ov ox oy f g h l = (to, from)
        where
          a : same (word_at words (cell p i j)) (u ++ v)
          a = product_word i j u v li lj ou ov f g

          b : same (word_at words (cell p m n)) (x ++ y)
          b = product_word m n x y lm ln ox oy h l

          oa : Over k (word_at words (cell p i j))
          oa = listed (cell p i j) (product_within i j li lj)

          ob : Over k (word_at words (cell p m n))
          ob = listed (cell p m n) (product_within m n lm ln)

          to : cell p i j ≡ cell p m n → same (u ++ v) (x ++ y)
          to e = c.equivalence.trans (u ++ v) (word_at words (cell p i j)) (x ++ y)
              (over_append k u v ou ov) oa (over_append k x y ox oy)
              (c.equivalence.symm (word_at words (cell p i j)) (u ++ v) oa (over_append k u v ou ov)
              a) (subst (λ (q : ℕ). same (word_at words q) (x ++ y)) (sym e) b)

          from : same (u ++ v) (x ++ y) → cell p i j ≡ cell p m n
          from s = one_element (cell p i j) (cell p m n) (product_within i j li lj)
              (product_within m n lm ln)
              (c.equivalence.trans (word_at words (cell p i j)) (u ++ v)
              (word_at words (cell p m n)) oa (over_append k u v ou ov) ob a
              (c.equivalence.trans (u ++ v) (x ++ y) (word_at words (cell p m n))
              (over_append k u v ou ov) (over_append k x y ox oy) ob s
              (c.equivalence.symm (word_at words (cell p m n)) (x ++ y) ob (over_append k x y ox oy)
              b)))

      module _ (e : ℕ) (x : List ℕ) (le : e < length words) (ox : Over k x)
          (is : same (word_at words e) x) where
        listed_over : (s : ℕ) → s < length words → Over k (local x (word_at words s))
        listed_over s l = local_over k x (word_at words s) ox (listed s l)

        local_within : (s : ℕ) → s < length words → local_element p e s < length words
        local_within s l = product_within (cell p e s) e (product_within e s le l) le

        -- the word of e s e
        local_word : (s : ℕ) → s < length words
            → same (word_at words (local_element p e s)) (local x (word_at words s))
        local_word s l =
            let w = word_at words s in
            let first = product_word e s x w le l ox (listed s l) is
            (c.equivalence.refl w (listed s l)) in
            let whole = product_word (cell p e s) e (x ++ w) x (product_within e s le l) le
            (over_append k x w ox (listed s l)) ox first is in
            subst (same (word_at words (local_element p e s))) (append_assoc x w x) whole

        idempotent_at : (s : ℕ) → s < length words → IsIdempotentElement p (local_element p e s)
            ↔ IsIdempotent same (local x (word_at words s))
        idempotent_at s l = (to, from)
          where
            o : Over k (local x (word_at words s))
            o = listed_over s l

            square : same (word_at words (cell p (local_element p e s) (local_element p e s)))
                (local x (word_at words s) ++ local x (word_at words s))
            square = product_word (local_element p e s) (local_element p e s)
                (local x (word_at words s)) (local x (word_at words s)) (local_within s l)
                (local_within s l) o o (local_word s l) (local_word s l)

            om : Over k (word_at words (local_element p e s))
            om = listed (local_element p e s) (local_within s l)

            oq : Over k (word_at words (cell p (local_element p e s) (local_element p e s)))
            oq = listed (cell p (local_element p e s) (local_element p e s))
                (product_within (local_element p e s) (local_element p e s) (local_within s l)
                (local_within s l))

            oo : Over k (local x (word_at words s) ++ local x (word_at words s))
            oo = over_append k (local x (word_at words s)) (local x (word_at words s)) o o

            to : cell p (local_element p e s) (local_element p e s) ≡ local_element p e s
                → same (local x (word_at words s) ++ local x (word_at words s))
                (local x (word_at words s))
            to h = c.equivalence.trans (local x (word_at words s) ++ local x (word_at words s))
                (word_at words (cell p (local_element p e s) (local_element p e s)))
                (local x (word_at words s)) oo oq o
                (c.equivalence.symm
                (word_at words (cell p (local_element p e s) (local_element p e s)))
                (local x (word_at words s) ++ local x (word_at words s)) oq oo square)
                (subst (λ (q : ℕ). same (word_at words q) (local x (word_at words s))) (sym h)
                (local_word s l))

            from : same (local x (word_at words s) ++ local x (word_at words s))
                (local x (word_at words s)) → cell p (local_element p e s) (local_element p e s)
                ≡ local_element p e s
            from h = one_element (cell p (local_element p e s) (local_element p e s))
                (local_element p e s)
                (product_within (local_element p e s) (local_element p e s) (local_within s l)
                (local_within s l)) (local_within s l)
                (c.equivalence.trans
                (word_at words (cell p (local_element p e s) (local_element p e s)))
                (local x (word_at words s) ++ local x (word_at words s))
                (word_at words (local_element p e s)) oq oo om square
                (c.equivalence.trans (local x (word_at words s) ++ local x (word_at words s))
                (local x (word_at words s)) (word_at words (local_element p e s)) oo o om h
                (c.equivalence.symm (word_at words (local_element p e s))
                (local x (word_at words s)) om o (local_word s l))))

        commute_at : (s t : ℕ) → s < length words → t < length words → CommuteAt p e s t
            ↔ Commute same x (word_at words s) (word_at words t)
        commute_at s t l m = equal_products (local_element p e s) (local_element p e t)
            (local_element p e t) (local_element p e s) (local x (word_at words s))
            (local x (word_at words t)) (local x (word_at words t)) (local x (word_at words s))
            (local_within s l) (local_within t m) (local_within t m) (local_within s l)
            (listed_over s l) (listed_over t m) (listed_over t m) (listed_over s l) (local_word s l)
            (local_word t m) (local_word t m) (local_word s l)

        -- the least repeat of the table is the first repeat on words
        pub first_repeat_on_words : (s : ℕ) → IsLeastRepeatAt p e s → IsFirstRepeat same words x s
        first_repeat_on_words s h =
            let l : s < length words = subst (λ (n : ℕ). s < n) t.side h.within in
            record {
              within = l;
              fails = λ i. h.fails ((idempotent_at s l).1 i);
              first = λ j b. (idempotent_at j (omega arith)).0 (h.first j b);
            }

        -- the least swap of the table is the first swap on words
        pub first_swap_on_words : (s o : ℕ) → IsLeastSwapAt p e s o → IsFirstSwap same words x s o
        first_swap_on_words s o h =
            let l : s < length words = subst (λ (n : ℕ). s < n) t.side h.within in
            let m : o < length words = subst (λ (n : ℕ). o < n) t.side h.other_within in
            let n : p.side ≡ length words = t.side in
            record {
              within = l;
              other_within = m;
              fails = λ i. h.fails ((commute_at s o l m).1 i);
              first = λ i j b lj. (commute_at i j (omega arith) lj).0 (h.first i j b (omega arith));
              second = λ j b. (commute_at s j l (omega arith)).0 (h.second j b);
            }

        -- words give one element where the numbers of their classes do
        pub give_one : (s o : ℕ) → s < length words → o < length words
            → (local_element p e s ≡ local_element p e o)
            ↔ GiveOne same x (word_at words s) (word_at words o)
        give_one s o l m = (to, from)
          where
            a : List ℕ
            a = word_at words (local_element p e s)

            b : List ℕ
            b = word_at words (local_element p e o)

            oa : Over k a
            oa = listed (local_element p e s) (local_within s l)

            ob : Over k b
            ob = listed (local_element p e o) (local_within o m)

            to : local_element p e s ≡ local_element p e o
                → GiveOne same x (word_at words s) (word_at words o)
            to h =
                c.equivalence.trans (local x (word_at words s)) a (local x (word_at words o))
                (listed_over s l) oa (listed_over o m)
                (c.equivalence.symm a (local x (word_at words s)) oa (listed_over s l)
                (local_word s l))
                (subst (λ (q : ℕ). same (word_at words q) (local x (word_at words o))) (sym h)
                (local_word o m))

            from : GiveOne same x (word_at words s) (word_at words o)
                → local_element p e s ≡ local_element p e o
            from h =
                one_element (local_element p e s) (local_element p e o) (local_within s l)
                (local_within o m)
                (c.equivalence.trans a (local x (word_at words s)) b oa (listed_over s l) ob
                (local_word s l)
                (c.equivalence.trans (local x (word_at words s)) (local x (word_at words o)) b
                (listed_over s l) (listed_over o m) ob h
                (c.equivalence.symm b (local x (word_at words o)) ob (listed_over o m)
                (local_word o m))))

        -- where the table has none, there is none on words
        pub no_repeat_on_words : HasNoRepeat p e → (w : List ℕ) → Over k w
            → IsIdempotent same (local x w)
        no_repeat_on_words h w ow =
            let (i, place) = r.place w ow in
            let li = place.within in
            let n : p.side ≡ length words = t.side in
            idempotent_moves k same c (local x (word_at words i)) (local x w) (listed_over i li)
            (local_over k x w ox ow)
            (local_moves k same c x x (word_at words i) w ox ox (listed i li) ow
            (c.equivalence.refl x ox) place.related)
            ((idempotent_at i li).0 (h i (omega arith)))

        pub no_swap_on_words : HasNoSwap p e → (w v : List ℕ) → Over k w → Over k v
            → Commute same x w v
        no_swap_on_words h w v ow ov =
            let (i, place) = r.place w ow in
            let (j, other) = r.place v ov in
            let li = place.within in
            let lj = other.within in
            let n : p.side ≡ length words = t.side in
            commute_moves k same c x x (word_at words i) (word_at words j) w v ox ox (listed i li)
            (listed j lj) ow ov (c.equivalence.refl x ox) place.related other.related
            ((commute_at i j li lj).0 (h i j (omega arith) (omega arith)))
