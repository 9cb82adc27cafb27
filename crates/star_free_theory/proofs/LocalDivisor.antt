-- The local divisor at an element of an aperiodic monoid.
use Rattle.std.proofs.Common.{◌≡◌, ℕ, zero, suc, sym, subst, ◌∙◌, ap, refl, inl, inr}
use Rattle.star_free_theory.specs.LocalDivisor.{HasSettlingPowers, InLocal, IsLocal, IsMonoid}
use Rattle.star_free_theory.specs.LocalDivisor.{power_of}

module _ (In : ℕ → Type 0) (mul : ℕ → ℕ → ℕ) (one : ℕ) (h : IsMonoid In mul one) (m : ℕ)
    (m_in : In m) where
  -- a is x m
  abbrev pub Ends : ℕ → Type 0
  Ends a = (x : ℕ) × In x × (a ≡ mul x m)

  abbrev pub Begins : ℕ → Type 0
  Begins a = (y : ℕ) × In y × (a ≡ mul m y)

  pub local_ends : (a : ℕ) → InLocal In mul m a → Ends a
  local_ends a (inl e) = (one, h.one_in, e ∙ sym (h.left m m_in))
  local_ends a (inr (s, i, e)) = (mul m s, h.mul_in m s m_in i, e)

  pub local_begins : (a : ℕ) → InLocal In mul m a → Begins a
  local_begins a (inl e) = (one, h.one_in, e ∙ sym (h.right m m_in))
  local_begins a (inr (s, i, e)) = (mul s m, h.mul_in s m i m_in, e ∙ h.assoc m s m m_in i m_in)

  pub local_in : (a : ℕ) → InLocal In mul m a → In a
  local_in a (inl e) = subst In (sym e) m_in
  local_in a (inr (s, i, e)) = subst In (sym e) (h.mul_in (mul m s) m (h.mul_in m s m_in i) m_in)

  -- x m y depends on x m and m y alone
  pub well_defined : (x x' y y' : ℕ) → In x → In x' → In y → In y' → mul x m ≡ mul x' m
      → mul m y ≡ mul m y' → mul (mul x m) y ≡ mul (mul x' m) y'
  well_defined x x' y y' i i' j j' e f =
      ap (λ z. mul z y) e ∙ h.assoc x' m y i' m_in j ∙ ap (mul x') f
      ∙ sym (h.assoc x' m y' i' m_in j')

  power_in : (x : ℕ) → In x → (n : ℕ) → In (power_of mul one x n)
  power_in x i zero = h.one_in
  power_in x i (suc n) = h.mul_in x (power_of mul one x n) i (power_in x i n)

  power_swap : (x : ℕ) → In x → (n : ℕ)
      → mul (power_of mul one x n) x ≡ mul x (power_of mul one x n)
  power_swap x i zero = h.left x i ∙ sym (h.right x i)
  power_swap x i (suc n) = h.assoc x (power_of mul one x n) x i (power_in x i n) i
      ∙ ap (mul x) (power_swap x i n)

  cancels : (x : ℕ) → In x → mul x m ≡ one → (n : ℕ)
      → mul (power_of mul one x n) (power_of mul one m n) ≡ one
  cancels x i e zero = h.left one h.one_in
  cancels x i e (suc n) =
      let p = power_of mul one x n in
      let q = power_of mul one m n in
      let ip : In p = power_in x i n in
      let iq : In q = power_in m m_in n in
      h.assoc x p (mul m q) i ip (h.mul_in m q m_in iq)
      ∙ ap (mul x) (ap (mul p) (sym (power_swap m m_in n)) ∙ sym (h.assoc p q m ip iq m_in)
      ∙ ap (λ z. mul z m) (cancels x i e n) ∙ h.left m m_in)
      ∙ e

  -- in an aperiodic monoid the identity is no product that ends in another element
  pub identity_ends : HasSettlingPowers In mul one → (x : ℕ) → In x → mul x m ≡ one → m ≡ one
  identity_ends a x i e =
      let s = a.settles m m_in in
      let p = power_of mul one x s.0 in
      let q = power_of mul one m s.0 in
      let ip : In p = power_in x i s.0 in
      let iq : In q = power_in m m_in s.0 in
      sym (h.left m m_in)
      ∙ ap (λ z. mul z m) (sym (cancels x i e s.0))
      ∙ h.assoc p q m ip iq m_in
      ∙ ap (mul p) (power_swap m m_in s.0 ∙ s.1)
      ∙ cancels x i e s.0

  -- the identity is not in the local divisor
  pub identity_not_local : HasSettlingPowers In mul one → (m ≡ one → ⊥) → InLocal In mul m one → ⊥
  identity_not_local a n l = let e = local_ends one l in n (identity_ends a e.0 e.1 (sym e.2))

  module _ (loc : ℕ → ℕ → ℕ) (l : IsLocal In mul m loc) where
    -- the local product, by how the first ends and the second begins
    pub loc_ends : (a b x : ℕ) → In x → a ≡ mul x m → InLocal In mul m b → loc a b ≡ mul x b
    loc_ends a b x i e k =
        let y = local_begins b k in
        ap (loc a) y.2 ∙ ap (λ z. loc z (mul m y.0)) e ∙ l.joins x y.0 i y.1
        ∙ h.assoc x m y.0 i m_in y.1 ∙ ap (mul x) (sym y.2)

    pub loc_begins : (a b y : ℕ) → In y → b ≡ mul m y → InLocal In mul m a → loc a b ≡ mul a y
    loc_begins a b y i e k =
        let x = local_ends a k in
        ap (loc a) e ∙ ap (λ z. loc z (mul m y)) x.2 ∙ l.joins x.0 y x.1 i
        ∙ ap (λ z. mul z y) (sym x.2)

    pub local_one : InLocal In mul m m
    local_one = inl refl

    pub local_left : (a : ℕ) → InLocal In mul m a → loc m a ≡ a
    local_left a k = loc_ends m a one h.one_in (sym (h.left m m_in)) k ∙ h.left a (local_in a k)

    pub local_right : (a : ℕ) → InLocal In mul m a → loc a m ≡ a
    local_right a k = loc_begins a m one h.one_in (sym (h.right m m_in)) k
        ∙ h.right a (local_in a k)

    -- m s m and m t m have the local product m s m t m
    loc_middle : (s t : ℕ) → In s → In t → loc (mul (mul m s) m) (mul (mul m t) m)
        ≡ mul (mul m (mul (mul s m) t)) m
    loc_middle s t i j =
        let ms = h.mul_in m s m_in i in
        let sm = h.mul_in s m i m_in in
        let tm = h.mul_in t m j m_in in
        loc_ends (mul (mul m s) m) (mul (mul m t) m) (mul m s) ms refl (inr (t, j, refl))
        ∙ ap (mul (mul m s)) (h.assoc m t m m_in j m_in)
        ∙ h.assoc m s (mul m (mul t m)) m_in i (h.mul_in m (mul t m) m_in tm)
        ∙ ap (mul m) (sym (h.assoc s m (mul t m) i m_in tm) ∙ sym (h.assoc (mul s m) t m sm j m_in))
        ∙ sym (h.assoc m (mul (mul s m) t) m m_in (h.mul_in (mul s m) t sm j) m_in)

    pub local_mul_in : (a b : ℕ) → InLocal In mul m a → InLocal In mul m b
        → InLocal In mul m (loc a b)
    local_mul_in a b (inl e) k = subst (InLocal In mul m)
        (sym (ap (λ z. loc z b) e ∙ local_left b k)) k
    local_mul_in a b (inr (s, i, e)) (inl f)
        = inr (s, i, ap (loc a) f ∙ local_right a (inr (s, i, e)) ∙ e)
    local_mul_in a b (inr (s, i, e)) (inr (t, j, f)) =
        inr (
          mul (mul s m) t,
          h.mul_in (mul s m) t (h.mul_in s m i m_in) j,
          ap (loc a) f
              ∙ ap (λ z. loc z (mul (mul m t) m)) e ∙ loc_middle s t i j,
        )

    pub local_assoc : (a b c : ℕ) → InLocal In mul m a → InLocal In mul m b → InLocal In mul m c
        → loc (loc a b) c ≡ loc a (loc b c)
    local_assoc a b c i j k =
        let x = local_ends a i in
        let y = local_begins c k in
        loc_begins (loc a b) c y.0 y.1 y.2 (local_mul_in a b i j)
        ∙ ap (λ z. mul z y.0) (loc_ends a b x.0 x.1 x.2 j)
        ∙ h.assoc x.0 b y.0 x.1 (local_in b j) y.1
        ∙ ap (mul x.0) (sym (loc_begins b c y.0 y.1 y.2 j))
        ∙ sym (loc_ends a (loc b c) x.0 x.1 x.2 (local_mul_in b c j k))

    pub local_monoid : IsMonoid (InLocal In mul m) loc m
    local_monoid = record {
      one_in = inl refl;
      mul_in = local_mul_in;
      assoc = local_assoc;
      left = local_left;
      right = local_right;
    }

    local_power_in : (a : ℕ) → InLocal In mul m a → (n : ℕ) → InLocal In mul m (power_of loc m a n)
    local_power_in a i zero = inl refl
    local_power_in a i (suc n) = local_mul_in a (power_of loc m a n) i (local_power_in a i n)

    -- the local powers of x m are x^n m
    pub local_power : (a x : ℕ) → In x → a ≡ mul x m → InLocal In mul m a → (n : ℕ)
        → power_of loc m a n ≡ mul (power_of mul one x n) m
    local_power a x i e k zero = sym (h.left m m_in)
    local_power a x i e k (suc n) =
        loc_ends a (power_of loc m a n) x i e (local_power_in a k n)
        ∙ ap (mul x) (local_power a x i e k n)
        ∙ sym (h.assoc x (power_of mul one x n) m i (power_in x i n) m_in)

    pub local_aperiodic : HasSettlingPowers In mul one → HasSettlingPowers (InLocal In mul m) loc m
    local_aperiodic p = record {
      settles = λ a k.
          let x = local_ends a k in
          let s = p.settles x.0 x.1 in (
            s.0,
            local_power a x.0 x.1 x.2 k (suc s.0) ∙ ap (λ z. mul z m) s.1
                ∙ sym (local_power a x.0 x.1 x.2 k s.0),
          );
    }
