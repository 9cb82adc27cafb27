-- Steps 7 and 8: the words with an image, from those of the two smaller instances.
use Rattle.std.proofs.Common.{◌≡◌, ℕ, List, [], ◌∷◌, ◌++◌, ◌↔◌, sym, subst, ◌∙◌, ap, refl, ◌⊎◌, inl}
use Rattle.std.proofs.Common.{inr}
use Rattle.std.proofs.lemmas.Bool.Decides.{eqb_tells}
use Rattle.std.proofs.lemmas.List.{append-nil}
use Rattle.star_free_theory.specs.Instance.{Has, IsUniverse, Writes, image, joined}
use Rattle.star_free_theory.specs.LocalDivisor.{InLocal, IsLocal}
use Rattle.star_free_theory.proofs.Cutting.{Writes-alike, Writes-append, blocks_at, blocks_on}
use Rattle.star_free_theory.proofs.Cutting.{blocks_write, joined-append, joined_cut, lead_at}
use Rattle.star_free_theory.proofs.Cutting.{lead_on, lead_writes, spelled}
use Rattle.star_free_theory.proofs.LocalDivisor.{loc_ends, local_monoid}
use Rattle.star_free_theory.proofs.Parts.{Behind, IsExact, IsInstance, Letters, Whole, Without}
use Rattle.star_free_theory.proofs.Parts.{blocks, lead}

pub Has-alike : (P Q : ℕ → List ℕ → Type 0) (mul : ℕ → ℕ → ℕ) (one : ℕ) (img : ℕ → ℕ)
    → ((a : ℕ) (x : List ℕ) → P a x → Q a x) → (p : ℕ) (w : List ℕ) → Has P mul one img p w
    → Has Q mul one img p w
Has-alike P Q mul one img f p w h = (h.0, Writes-alike P Q f h.0 h.1, h.2, h.3)

pub universe_alike : (P Q : ℕ → List ℕ → Type 0) (U V : List ℕ → Type 0)
    → ((a : ℕ) (x : List ℕ) → P a x ↔ Q a x) → ((w : List ℕ) → U w ↔ V w) → IsUniverse P U
    → IsUniverse Q V
universe_alike P Q U V f g h = record {
  covers = λ w. (
    λ v. let r = (h.covers w).0 ((g w).1 v) in
        (r.0, Writes-alike P Q (λ a x. (f a x).0) r.0 r.1, r.2),
    λ r. (g w).0
        ((h.covers w).1 (r.0, Writes-alike Q P (λ a x. (f a x).1) r.0 r.1, r.2)),
  );
  once = λ ps qs i j. h.once ps qs (Writes-alike Q P (λ a x. (f a x).1) ps i)
      (Writes-alike Q P (λ a x. (f a x).1) qs j);
}

-- the last piece, if there is one
pub last_or : (bs : List (ℕ × List ℕ)) → (bs ≡ [])
    ⊎ ((ds : List (ℕ × List ℕ)) × (b : ℕ × List ℕ) × (bs ≡ ds ++ b ∷ []))
last_or [] = inl refl
last_or (b ∷ bs) = elim (last_or bs) [
  | inl e ↦ inr ([], b, ap (◌∷◌ b) e)
  | inr (ds, d, e) ↦ inr (b ∷ ds, d, ap (◌∷◌ b) e)
]

pub Writes-front : (P : ℕ → List ℕ → Type 0) (ds : List (ℕ × List ℕ)) (b : ℕ × List ℕ)
    → Writes P (ds ++ b ∷ []) → Writes P ds × P b.0 b.1
Writes-front P [] b h = (tt, h.0)
Writes-front P (d ∷ ds) b h = let r = Writes-front P ds b h.1 in ((h.0, r.0), r.1)

module _ (In : ℕ → Type 0) (mul : ℕ → ℕ → ℕ) (one : ℕ) (P : ℕ → List ℕ → Type 0) (img : ℕ → ℕ)
    (h : IsInstance In mul one P img) where
  pub image_in : (ps : List (ℕ × List ℕ)) → Writes P ps → In (image mul one img ps)
  image_in [] i = h.monoid.one_in
  image_in (p ∷ ps) i = h.monoid.mul_in (img p.0) (image mul one img ps) (h.images p.0 p.1 i.0)
      (image_in ps i.1)

  pub image-append : (ps qs : List (ℕ × List ℕ)) → Writes P ps → Writes P qs
      → image mul one img (ps ++ qs) ≡ mul (image mul one img ps) (image mul one img qs)
  image-append [] qs i j = sym (h.monoid.left (image mul one img qs) (image_in qs j))
  image-append (p ∷ ps) qs i j =
      ap (mul (img p.0)) (image-append ps qs i.1 j)
      ∙ sym (h.monoid.assoc (img p.0) (image mul one img ps) (image mul one img qs)
      (h.images p.0 p.1 i.0) (image_in ps i.1) (image_in qs j))

  module _ (c : ℕ) (m_in : In (img c)) where
    -- the image is that of the front, times m t for each block of letter t
    without_in : (ps : List (ℕ × List ℕ)) → Writes (Without P c) ps → In (image mul one img ps)
    without_in ps i = image_in ps (Writes-alike (Without P c) P (λ a y k. k.0) ps i)

    pub behind_in : (t : ℕ) (y : List ℕ) → Behind P c mul one img t y → In t
    behind_in t y (x, u, i, (qs, j, e, f), g) = subst In f (without_in qs j)

    -- the blocks as an instance with images m t
    spread : IsInstance In mul one (Behind P c mul one img) (mul (img c))
    spread = record {
      monoid = h.monoid;
      images = λ t y b. h.monoid.mul_in (img c) t m_in
          (behind_in t y b);
    }

text_parts : (qs ps us : List (ℕ × List ℕ)) (c : ℕ) (x w0 v z y w1 w : List ℕ) → joined qs ≡ w0
    → joined ps ≡ v → joined us ≡ z → x ++ z ≡ y → v ++ y ≡ w1 → w0 ++ w1 ≡ w
    → joined (qs ++ (ps ++ (c, x) ∷ us)) ≡ w
text_parts qs ps us c x w0 v z y w1 w a b d e f g =
    let i : joined (qs ++ (ps ++ (c, x) ∷ us)) ≡ joined qs ++ joined (ps ++ (c, x) ∷ us)
    = joined-append qs (ps ++ (c, x) ∷ us) in
    let j : joined (ps ++ (c, x) ∷ us) ≡ joined ps ++ (x ++ joined us) = joined-append ps
    ((c, x) ∷ us) in
    cc

module _ (In : ℕ → Type 0) (mul : ℕ → ℕ → ℕ) (one : ℕ) (P : ℕ → List ℕ → Type 0) (img : ℕ → ℕ)
    (h : IsInstance In mul one P img) (c : ℕ) (m_in : In (img c)) where
  abbrev tail_image : List (ℕ × List ℕ) → ℕ
  tail_image bs = image mul one (mul (img c)) bs

  abbrev B : ℕ → List ℕ → Type 0
  B = Behind P c mul one img

  tail_in : (bs : List (ℕ × List ℕ)) → Writes B bs → In (tail_image bs)
  tail_in bs i = image_in In mul one B (mul (img c)) (spread In mul one P img h c m_in) bs i

  lead_in : (ps : List (ℕ × List ℕ)) → Writes P ps → In (image mul one img (lead c ps))
  lead_in ps i = without_in In mul one P img h c m_in (lead c ps) (lead_writes mul one img c P ps i)

  pub image_cut : (ps : List (ℕ × List ℕ)) → Writes P ps
      → image mul one img ps ≡ mul (image mul one img (lead c ps))
      (tail_image (blocks mul one img c ps))
  image_cut [] i = sym (h.monoid.left one h.monoid.one_in)
  image_cut (p ∷ ps) i =
      let l = image mul one img (lead c ps) in
      let s = tail_image (blocks mul one img c ps) in
      let il : In l = lead_in ps i.1 in
      let is : In s = tail_in (blocks mul one img c ps) (blocks_write mul one img c P ps i.1) in
      let ia : In (img p.0) = h.images p.0 p.1 i.0 in
      elim (eqb_tells p.0 c) [
        | inl k ↦ rw (lead_at c p ps k.0, blocks_at mul one img c p ps k.0) (
            ap (λ a. mul (img a) (image mul one img ps)) k.1 ∙ ap (mul (img c)) (image_cut ps i.1)
            ∙ sym (h.monoid.assoc (img c) l s m_in il is)
            ∙ sym (h.monoid.left (mul (mul (img c) l) s)
            (h.monoid.mul_in (mul (img c) l) s (h.monoid.mul_in (img c) l m_in il) is)))
        | inr k ↦ rw (lead_on c p ps k.0, blocks_on mul one img c p ps k.0) (
            ap (mul (img p.0)) (image_cut ps i.1) ∙ sym (h.monoid.assoc (img p.0) l s ia il is))
      ]

  module _ (loc : ℕ → ℕ → ℕ) (l : IsLocal In mul (img c) loc) where
    abbrev mid : ℕ → ℕ
    mid t = mul (mul (img c) t) (img c)

    pub local_instance : IsInstance (InLocal In mul (img c)) loc (img c) B mid
    local_instance = record {
      monoid = local_monoid In mul one h.monoid (img c) m_in loc l;
      images = λ t y b. inr (t, behind_in In mul one P img h c m_in t y b, refl);
    }

    -- the local image of blocks is their image times m
    pub local_image : (bs : List (ℕ × List ℕ)) → Writes B bs
        → image loc (img c) mid bs ≡ mul (tail_image bs) (img c)
    local_image [] i = sym (h.monoid.left (img c) m_in)
    local_image (b ∷ bs) i =
        let it : In b.0 = behind_in In mul one P img h c m_in b.0 b.1 i.0 in
        let imt = h.monoid.mul_in (img c) b.0 m_in it in
        loc_ends In mul one h.monoid (img c) m_in loc l (mid b.0) (image loc (img c) mid bs)
        (mul (img c) b.0) imt refl
        (image_in (InLocal In mul (img c)) loc (img c) B mid local_instance bs i.1)
        ∙ ap (mul (mul (img c) b.0)) (local_image bs i.1)
        ∙ sym (h.monoid.assoc (mul (img c) b.0) (tail_image bs) (img c) imt (tail_in bs i.1) m_in)

    -- the local image of blocks, times t, is their image with m t behind it
    ended_image : (ds : List (ℕ × List ℕ)) (t : ℕ) → Writes B ds → In t
        → mul (image loc (img c) mid ds) t ≡ mul (tail_image ds) (mul (img c) t)
    ended_image ds t i j = ap (λ z. mul z t) (local_image ds i)
        ∙ h.monoid.assoc (tail_image ds) (img c) t (tail_in ds i) m_in j

    tail_push : (ds : List (ℕ × List ℕ)) (b : ℕ × List ℕ) → Writes B ds → B b.0 b.1
        → tail_image (ds ++ b ∷ []) ≡ mul (tail_image ds) (mul (img c) b.0)
    tail_push ds b i j =
        let it : In b.0 = behind_in In mul one P img h c m_in b.0 b.1 j in
        image-append In mul one B (mul (img c)) (spread In mul one P img h c m_in) ds (b ∷ []) i
        (j, tt)
        ∙ ap (mul (tail_image ds))
        (h.monoid.right (mul (img c) b.0) (h.monoid.mul_in (img c) b.0 m_in it))

    module _ (Sub : ℕ → Type 0) (E F : ℕ → List ℕ → Type 0)
        (hb : IsInstance Sub mul one (Without P c) img)
        (eb : IsExact Sub mul one (Without P c) img E) where
      -- the letters of the second instance are what stands behind c
      pub letters_behind : (t : ℕ) (y : List ℕ) → Letters Sub (P c) E t y → B t y
      letters_behind t y (i, (x, u, j, e, f)) = (x, u, j, (eb.means t i u).0 e, f)

      pub behind_letters : (t : ℕ) (y : List ℕ) → B t y → Letters Sub (P c) E t y
      behind_letters t y (x, u, i, (qs, j, e, f), g) =
          let it : Sub t = subst Sub f (image_in Sub mul one (Without P c) img hb qs j) in
          (it, (x, u, i, (eb.means t it u).1 (qs, j, e, f), g))

      module _ (ef : IsExact (InLocal In mul (img c)) loc (img c) (Letters Sub (P c) E) mid F) where
        has_whole : (p : ℕ) (w : List ℕ) → Has P mul one img p w
            → Whole Sub (InLocal In mul (img c)) mul (P c) E F p w
        has_whole p w (ps, i, e, f) =
            let bs = blocks mul one img c ps in
            let q = image mul one img (lead c ps) in
            let ib : Writes B bs = blocks_write mul one img c P ps i in
            let il : Writes (Without P c) (lead c ps) = lead_writes mul one img c P ps i in
            let iq : Sub q = image_in Sub mul one (Without P c) img hb (lead c ps) il in
            let jq : In q = lead_in ps i in
            let eq : E q (joined (lead c ps)) = (eb.means q iq (joined (lead c ps))).1
            (lead c ps, il, refl, refl) in
            let whole : image mul one img ps ≡ mul q (tail_image bs) = image_cut ps i in
            let words : joined ps ≡ joined (lead c ps) ++ joined bs = joined_cut mul one img c ps in
            elim (last_or bs) [
              | inl n ↦
                  let g : q ≡ p = sym (h.monoid.right q jq) ∙ ap (λ z. mul q (tail_image z)) (sym n)
                  ∙ sym whole ∙ f in
                  inl (
                    subst Sub g iq,
                    (eb.means p (subst Sub g iq) w).1 (
                      lead c ps,
                      il,
                      sym (append-nil (joined (lead c ps)))
                          ∙ ap (λ z. joined (lead c ps) ++ joined z) (sym n) ∙ sym words ∙ e,
                      g,
                    ),
                  )
              | inr (ds, b, n) ↦
                  let k = Writes-front B ds b (subst (Writes B) n ib) in
                  let r = image loc (img c) mid ds in
                  let ir : InLocal In mul (img c) r = image_in (InLocal In mul (img c)) loc (img c)
                  B mid local_instance ds k.0 in
                  let y = behind_letters b.0 b.1 k.1 in
                  let it : In b.0 = behind_in In mul one P img h c m_in b.0 b.1 k.1 in
                  let value : mul q (mul r b.0) ≡ p = ap (mul q)
                  (ended_image ds b.0 k.0 it ∙ sym (tail_push ds b k.0 k.1)
                  ∙ ap tail_image (sym n)) ∙ sym whole ∙ f in
                  let text : joined (lead c ps) ++ (joined ds ++ b.1) ≡ w
                  = ap (λ z. joined (lead c ps) ++ (joined ds ++ z)) (sym (append-nil b.1))
                  ∙ ap (λ z. joined (lead c ps) ++ z)
                  (sym (joined-append ds (b ∷ [])) ∙ ap joined (sym n)) ∙ sym words ∙ e in
                  inr (
                    q,
                    mul r b.0,
                    iq,
                    value,
                    (
                      joined (lead c ps),
                      joined ds ++ b.1,
                      eq,
                      (
                        r,
                        b.0,
                        ir,
                        y.0,
                        refl,
                        (
                          joined ds,
                          b.1,
                          (ef.means r ir (joined ds)).1 (
                            ds,
                            Writes-alike B (Letters Sub (P c) E) behind_letters ds k.0,
                            refl,
                            refl,
                          ),
                          y.1,
                          refl,
                        ),
                      ),
                      text,
                    ),
                  )
            ]

        whole_has : (p : ℕ) (w : List ℕ) → Whole Sub (InLocal In mul (img c)) mul (P c) E F p w
            → Has P mul one img p w
        whole_has p w (inl (i, e)) = Has-alike (Without P c) P mul one img (λ a y k. k.0) p w
            ((eb.means p i w).0 e)
        whole_has p w (inr (
          q,
          u,
          iq,
          d,
          (w0, w1, e0, (r, t, ir, it, f, (v, y, e1, (x, z, ix, e2, g2), g1)), g0),
        )) =
            let (qs, jq, aq, bq) = (eb.means q iq w0).0 e0 in
            let (bs, jb', ab, bb) = (ef.means r ir v).0 e1 in
            let (us, ju, au, bu) = (eb.means t it z).0 e2 in
            let jb : Writes B bs = Writes-alike (Letters Sub (P c) E) B letters_behind bs jb' in
            let (ps, jp, ap', lp, kp) = spelled mul one img c P bs jb in
            let kq : Writes P qs = Writes-alike (Without P c) P (λ a y k. k.0) qs jq in
            let ku : Writes P us = Writes-alike (Without P c) P (λ a y k. k.0) us ju in
            let back = (c, x) ∷ us in
            let kb : Writes P back = (ix, ku) in
            let it' : In t = subst In bu (image_in In mul one P img h us ku) in
            let mid_image : image mul one img ps ≡ tail_image bs = image_cut ps jp
            ∙ ap (λ k. mul (image mul one img k) (tail_image (blocks mul one img c ps))) lp
            ∙ ap (λ k. mul one (tail_image k)) kp
            ∙ h.monoid.left (tail_image bs) (tail_in bs jb) in (
              qs ++ (ps ++ back),
              Writes-append P qs (ps ++ back) kq (Writes-append P ps back jp kb),
              text_parts qs ps us c x w0 v z y w1 w aq (ap' ∙ ab) au g2 g1 g0,
              image-append In mul one P img h qs (ps ++ back) kq (Writes-append P ps back jp kb)
                  ∙ ap (λ k. mul k (image mul one img (ps ++ back))) bq
                  ∙ ap (mul q) (image-append In mul one P img h ps back jp kb
                  ∙ ap (λ k. mul k (mul (img c) (image mul one img us))) mid_image
                  ∙ ap (λ k. mul (tail_image bs) (mul (img c) k)) bu
                  ∙ sym (ended_image bs t jb it') ∙ ap (λ k. mul k t) bb ∙ f)
                  ∙ d,
            )

        -- steps 7 and 8 give the words with each image
        pub step_exact : IsExact In mul one P img (Whole Sub (InLocal In mul (img c)) mul (P c) E F)
        step_exact = record { means = λ p i w. (whole_has p w, has_whole p w) }
