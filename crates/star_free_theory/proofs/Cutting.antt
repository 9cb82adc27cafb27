-- Words cut at the pieces of one letter.
use Rattle.std.proofs.Common.{◌≡◌, ℕ, true, false, eqb, List, [], ◌∷◌, ◌++◌, append_assoc, ◌↔◌, sym}
use Rattle.std.proofs.Common.{subst, ◌∙◌, ap, refl, ◌⊎◌, inl, inr}
use Rattle.std.proofs.lemmas.Bool.Decides.{eqb_tells}
use Rattle.std.proofs.lemmas.Bool.{eq-eqb}
use Rattle.std.proofs.lemmas.List.{append-nil}
use Rattle.star_free_theory.specs.Instance.{IsUniverse, IsWritten, Writes, image, joined}
use Rattle.star_free_theory.proofs.Parts.{Behind, Free, Opened, Without, blocks, lead}

pub joined-append : (ps qs : List (ℕ × List ℕ)) → joined (ps ++ qs) ≡ joined ps ++ joined qs
joined-append [] qs = refl
joined-append (p ∷ ps) qs = rw (joined-append ps qs)
    (sym (append_assoc p.1 (joined ps) (joined qs)))

pub Writes-append : (P : ℕ → List ℕ → Type 0) (ps qs : List (ℕ × List ℕ)) → Writes P ps
    → Writes P qs → Writes P (ps ++ qs)
Writes-append P [] qs h i = i
Writes-append P (p ∷ ps) qs h i = (h.0, Writes-append P ps qs h.1 i)

pub Writes-alike : (P Q : ℕ → List ℕ → Type 0) → ((a : ℕ) (x : List ℕ) → P a x → Q a x)
    → (ps : List (ℕ × List ℕ)) → Writes P ps → Writes Q ps
Writes-alike P Q f [] h = h
Writes-alike P Q f (p ∷ ps) h = (f p.0 p.1 h.0, Writes-alike P Q f ps h.1)

module _ (c : ℕ) where
  pub lead_at : (p : ℕ × List ℕ) (ps : List (ℕ × List ℕ)) → eqb p.0 c ≡ true → lead c (p ∷ ps) ≡ []
  lead_at p ps e = rw e refl

  pub lead_on : (p : ℕ × List ℕ) (ps : List (ℕ × List ℕ)) → eqb p.0 c ≡ false
      → lead c (p ∷ ps) ≡ p ∷ lead c ps
  lead_on p ps e = rw e refl

module _ (mul : ℕ → ℕ → ℕ) (one : ℕ) (img : ℕ → ℕ) (c : ℕ) where
  pub blocks_at : (p : ℕ × List ℕ) (ps : List (ℕ × List ℕ)) → eqb p.0 c ≡ true
      → blocks mul one img c (p ∷ ps) ≡ (image mul one img (lead c ps), p.1 ++ joined (lead c ps)) ∷
      blocks mul one img c ps
  blocks_at p ps e = rw e refl

  pub blocks_on : (p : ℕ × List ℕ) (ps : List (ℕ × List ℕ)) → eqb p.0 c ≡ false
      → blocks mul one img c (p ∷ ps) ≡ blocks mul one img c ps
  blocks_on p ps e = rw e refl

  -- the words of the two parts are the whole word
  pub joined_cut : (ps : List (ℕ × List ℕ))
      → joined ps ≡ joined (lead c ps) ++ joined (blocks mul one img c ps)
  joined_cut [] = refl
  joined_cut (p ∷ ps) = elim (eqb_tells p.0 c) [
    | inl s ↦ rw (lead_at c p ps s.0, blocks_at p ps s.0)
        (ap (λ z. p.1 ++ z) (joined_cut ps)
        ∙ sym (append_assoc p.1 (joined (lead c ps)) (joined (blocks mul one img c ps))))
    | inr s ↦ rw (lead_on c p ps s.0, blocks_on p ps s.0)
        (ap (λ z. p.1 ++ z) (joined_cut ps)
        ∙ sym (append_assoc p.1 (joined (lead c ps)) (joined (blocks mul one img c ps))))
  ]

  module _ (P : ℕ → List ℕ → Type 0) where
    pub lead_writes : (ps : List (ℕ × List ℕ)) → Writes P ps → Writes (Without P c) (lead c ps)
    lead_writes [] h = tt
    lead_writes (p ∷ ps) h = elim (eqb_tells p.0 c) [
      | inl s ↦ subst (Writes (Without P c)) (sym (lead_at c p ps s.0)) tt
      | inr s ↦ subst (Writes (Without P c)) (sym (lead_on c p ps s.0))
          ((h.0, s.1), lead_writes ps h.1)
    ]

    pub blocks_write : (ps : List (ℕ × List ℕ)) → Writes P ps
        → Writes (Behind P c mul one img) (blocks mul one img c ps)
    blocks_write [] h = tt
    blocks_write (p ∷ ps) h = elim (eqb_tells p.0 c) [
      | inl s ↦ subst (Writes (Behind P c mul one img)) (sym (blocks_at p ps s.0)) (
        (
          p.1,
          joined (lead c ps),
          subst (λ a. P a p.1) s.1 h.0,
          (lead c ps, lead_writes ps h.1, refl, refl),
          refl,
        ),
        blocks_write ps h.1,
      )
      | inr s ↦ subst (Writes (Behind P c mul one img)) (sym (blocks_on p ps s.0))
          (blocks_write ps h.1)
    ]

    -- pieces without c in front
    pub lead_after : (qs ps : List (ℕ × List ℕ)) → Writes (Without P c) qs
        → lead c (qs ++ ps) ≡ qs ++ lead c ps
    lead_after [] ps h = refl
    lead_after (q ∷ qs) ps h = elim (eqb_tells q.0 c) [
      | inl s ↦ absurd (h.0.1 s.1)
      | inr s ↦ lead_on c q (qs ++ ps) s.0 ∙ ap (◌∷◌ q) (lead_after qs ps h.1)
    ]

    pub blocks_after : (qs ps : List (ℕ × List ℕ)) → Writes (Without P c) qs
        → blocks mul one img c (qs ++ ps) ≡ blocks mul one img c ps
    blocks_after [] ps h = refl
    blocks_after (q ∷ qs) ps h = elim (eqb_tells q.0 c) [
      | inl s ↦ absurd (h.0.1 s.1)
      | inr s ↦ blocks_on q (qs ++ ps) s.0 ∙ blocks_after qs ps h.1
    ]

    -- pieces of which bs are the blocks
    abbrev pub IsSpelling : List (ℕ × List ℕ) → List (ℕ × List ℕ) → Type 0
    IsSpelling bs ps = Writes P ps × (joined ps ≡ joined bs) × (lead c ps ≡ [])
        × (blocks mul one img c ps ≡ bs)

    cons_alike : (t s : ℕ) (y z : List ℕ) (bs cs : List (ℕ × List ℕ)) → t ≡ s → y ≡ z → bs ≡ cs
        → (t, y) ∷ bs ≡ (s, z) ∷ cs
    cons_alike t s y z bs cs e f g = cc

    pub spelled : (bs : List (ℕ × List ℕ)) → Writes (Behind P c mul one img) bs
        → (ps : List (ℕ × List ℕ)) × Writes P ps × (joined ps ≡ joined bs) × (lead c ps ≡ [])
        × (blocks mul one img c ps ≡ bs)
    spelled [] h = ([], tt, refl, refl, refl)
    spelled (b ∷ bs) ((x, u, i, (qs, j, e, f), g), h) =
        let r = spelled bs h in
        let ps = r.0 in
        let same : eqb c c ≡ true = eq-eqb c c refl in
        let l : lead c (qs ++ ps) ≡ qs = lead_after qs ps j ∙ ap (λ z. qs ++ z) r.3
        ∙ append-nil qs in (
          (c, x) ∷ (qs ++ ps),
          (i, Writes-append P qs ps (Writes-alike (Without P c) P (λ a y w. w.0) qs j) r.1),
          ap (λ z. x ++ z) (joined-append qs ps ∙ ap (λ z. z ++ joined ps) e)
              ∙ sym (append_assoc x u (joined ps)) ∙ ap (λ z. z ++ joined ps) g
              ∙ ap (λ z. b.1 ++ z) r.2,
          lead_at c (c, x) (qs ++ ps) same,
          blocks_at (c, x) (qs ++ ps) same
              ∙ cons_alike (image mul one img (lead c (qs ++ ps))) b.0
              (x ++ joined (lead c (qs ++ ps))) b.1 (blocks mul one img c (qs ++ ps)) bs
              (ap (image mul one img) l ∙ f) (ap (λ z. x ++ joined z) l ∙ ap (λ z. x ++ z) e ∙ g)
              (blocks_after qs ps j ∙ r.4),
        )

    -- either no piece is of c, or the pieces are cut at one
    with_or_without : (ps : List (ℕ × List ℕ)) → Writes P ps → Writes (Without P c) ps
        ⊎ ((qs rs : List (ℕ × List ℕ)) × (x : List ℕ) × Writes P qs × P c x × Writes P rs
        × (ps ≡ qs ++ (c, x) ∷ rs))
    with_or_without [] h = inl tt
    with_or_without (p ∷ ps) h = elim (eqb_tells p.0 c) [
      | inl s ↦ inr (
        [],
        ps,
        p.1,
        tt,
        subst (λ a. P a p.1) s.1 h.0,
        h.1,
        ap (λ z. (z, p.1) ∷ ps)
            s.1,
      )
      | inr s ↦ elim (with_or_without ps h.1) [
        | inl w ↦ inl ((h.0, s.1), w)
        | inr (qs, rs, x, i, j, k, e) ↦ inr (p ∷ qs, rs, x, (h.0, i), j, k, ap (◌∷◌ p) e)
      ]
    ]

    pub without_none : (qs rs : List (ℕ × List ℕ)) (x : List ℕ)
        → Writes (Without P c) (qs ++ (c, x) ∷ rs) → ⊥
    without_none [] rs x h = h.0.1 refl
    without_none (q ∷ qs) rs x h = without_none qs rs x h.1

    joined_three : (qs rs : List (ℕ × List ℕ)) (x : List ℕ)
        → joined (qs ++ (c, x) ∷ rs) ≡ (joined qs ++ x) ++ joined rs
    joined_three qs rs x = joined-append qs ((c, x) ∷ rs)
        ∙ sym (append_assoc (joined qs) x (joined rs))

    module _ (U : List ℕ → Type 0) (h : IsUniverse P U) where
      -- step 2: the words without c are the words of the other letters
      pub free_covers : (w : List ℕ) → Free U (P c) w ↔ IsWritten (Without P c) w
      free_covers w = (free_written w, written_free w)
        where
          free_written : (w : List ℕ) → Free U (P c) w → IsWritten (Without P c) w
          free_written w (i, n) =
              let r = (h.covers w).0 i in
              elim (with_or_without r.0 r.1) [
                | inl s ↦ (r.0, s, r.2)
                | inr (qs, rs, x, j, k, l, e) ↦ absurd
                    (n (
                      joined qs ++ x,
                      joined rs,
                      (joined qs, x, (h.covers (joined qs)).1 (qs, j, refl), k, refl),
                      (h.covers (joined rs)).1 (rs, l, refl),
                      sym (joined_three qs rs x)
                          ∙ ap joined (sym e) ∙ r.2,
                    ))
              ]

          written_free : (w : List ℕ) → IsWritten (Without P c) w → Free U (P c) w
          written_free w (ps, i, e) =
              let j : Writes P ps = Writes-alike (Without P c) P (λ a y k. k.0) ps i in (
                (h.covers w).1 (ps, j, e),
                λ (s, v, (u, x, k, l, f), m, g).
                    let a = (h.covers u).0 k in
                    let b = (h.covers v).0 m in
                    let two : joined ps ≡ joined (a.0 ++ (c, x) ∷ b.0) = e ∙ sym g
                    ∙ ap (λ z. z ++ v) (sym f) ∙ ap (λ z. (z ++ x) ++ v) (sym a.2)
                    ∙ ap (λ z. (joined a.0 ++ x) ++ z) (sym b.2)
                    ∙ sym (joined_three a.0 b.0 x) in
                    without_none a.0 b.0 x
                    (subst (Writes (Without P c))
                    (h.once ps (a.0 ++ (c, x) ∷ b.0) j
                    (Writes-append P a.0 ((c, x) ∷ b.0) a.1 (l, b.1)) two) i),
              )

      pub free_universe : IsUniverse (Without P c) (Free U (P c))
      free_universe = record {
        covers = free_covers;
        once = λ ps qs i j e. h.once ps qs (Writes-alike (Without P c) P (λ a y k. k.0) ps i)
            (Writes-alike (Without P c) P (λ a y k. k.0) qs j) e;
      }

      pub opened_written : (w : List ℕ) → Opened U (P c) w → IsWritten (Behind P c mul one img) w
      opened_written w (inr e) = ([], tt, sym e)
      opened_written w (inl (x, u, i, j, e)) =
          let r = (h.covers u).0 j in
          let ps = (c, x) ∷ r.0 in (
            blocks mul one img c ps,
            blocks_write ps (i, r.1),
            ap (λ z. joined z ++ joined (blocks mul one img c ps))
                (sym (lead_at c (c, x) r.0 (eq-eqb c c refl))) ∙ sym (joined_cut ps)
                ∙ ap (λ z. x ++ z) r.2 ∙ e,
          )

      written_opened : (w : List ℕ) (bs : List (ℕ × List ℕ)) → Writes (Behind P c mul one img) bs
          → joined bs ≡ w → Opened U (P c) w
      written_opened w [] i e = inr (sym e)
      written_opened w (b ∷ bs) ((x, u, i, (qs, j, d, f), g), k) e =
          let r = spelled bs k in
          inl (
            x,
            joined (qs ++ r.0),
            i,
            (h.covers (joined (qs ++ r.0))).1 (
              qs ++ r.0,
              Writes-append P qs r.0
                  (Writes-alike (Without P c) P (λ a y w. w.0) qs j) r.1,
              refl,
            ),
            ap (λ z. x ++ z) (joined-append qs r.0 ∙ ap (λ z. z ++ joined r.0) d
                ∙ ap (λ z. u ++ z) r.2) ∙ sym (append_assoc x u (joined bs))
                ∙ ap (λ z. z ++ joined bs) g ∙ e,
          )

      -- step 4: the words that are empty or begin with c are those of the letters `Behind`
      pub opened_universe : IsUniverse (Behind P c mul one img) (Opened U (P c))
      opened_universe = record {
        covers = λ w. (opened_written w, λ r. written_opened w r.0 r.1 r.2);
        once = λ bs ds i j e.
            let r = spelled bs i in
            let s = spelled ds j in
            sym r.4 ∙ ap (blocks mul one img c) (h.once r.0 s.0 r.1 s.1 (r.2 ∙ e ∙ sym s.2)) ∙ s.4;
      }
