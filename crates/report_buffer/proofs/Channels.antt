-- Texts that are said one after another.
use Rattle.std.proofs.Common.{◌≡◌, ◌<◌, ◌≤◌, ◌+◌, ◌-◌, ℕ, zero, suc, refl, add-one, List, [], ◌++◌, false, Result, Ok, Err, sym, ap, ◌∙◌, subst, append_assoc, append-nil, arith}
use Rattle.std.proofs.KnownBytes.{Appends-trans, Appends-nil}
use Rattle.std.proofs.lemmas.Result.{err_from_is_err_and}
use Rattle.std.specs.Prelude.{OnOk}
use Rattle.std.specs.Result.{IsErrAnd}
use Rattle.report_buffer.specs.Saying.{Channel, IsSaid, IsBrokenOff, IsSaidUpTo, AreLinesSaid, Says}
use Rattle.report_buffer.specs.Texts.{texts_below}
use Rattle.report_buffer.specs.declared.buffer.SayFault.{SayFault}
use Rattle.report_buffer.specs.declared.buffer.SayFault.TheVariants as fault

-- before anything is said, nothing is
pub said-nothing : {a : Channel} → a.buffer.broken ≡ false → IsSaid a a []
said-nothing {a} whole = record {
  prefix = [];
  written = Appends-nil a.given;
  rest = sym (append-nil a.buffer.bytes);
  whole = whole;
}

-- two texts
pub said-then : {a b c : Channel} {p q : List ℕ} → IsSaid a b p → IsSaid b c q → IsSaid a c (p ++ q)
said-then {a} {b} {c} {p} {q} first second = record {
  prefix = first.prefix ++ second.prefix;
  written = Appends-trans a.given b.given c.given first.prefix second.prefix first.written
      second.written;
  rest = append_assoc first.prefix second.prefix c.buffer.bytes
      ∙ ap (λ x. first.prefix ++ x) second.rest
      ∙ sym (append_assoc first.prefix b.buffer.bytes q)
      ∙ ap (λ x. x ++ q) first.rest ∙ append_assoc a.buffer.bytes p q;
  whole = second.whole;
}

-- broken off before a further text
pub broken-before : {a b : Channel} {p : List ℕ} (q : List ℕ) → IsBrokenOff a b p
    → IsBrokenOff a b (p ++ q)
broken-before {a} {b} {p} q off = record {
  prefix = off.prefix;
  rest = off.rest ++ q;
  written = off.written;
  cut = sym (append_assoc off.prefix off.rest q) ∙ ap (λ x. x ++ q) off.cut
      ∙ append_assoc a.buffer.bytes p q;
  broken = off.broken;
}

-- broken off after a text
pub broken-after : {a b c : Channel} {p q : List ℕ} → IsSaid a b p → IsBrokenOff b c q
    → IsBrokenOff a c (p ++ q)
broken-after {a} {b} {c} {p} {q} said off = record {
  prefix = said.prefix ++ off.prefix;
  rest = off.rest;
  written = Appends-trans a.given b.given c.given said.prefix off.prefix said.written off.written;
  cut = append_assoc said.prefix off.prefix off.rest ∙ ap (λ x. said.prefix ++ x) off.cut
      ∙ sym (append_assoc said.prefix b.buffer.bytes q) ∙ ap (λ x. x ++ q) said.rest
      ∙ append_assoc a.buffer.bytes p q;
  broken = off.broken;
}

-- a text that is said without a fault, and then a call
pub says-then : {T : Type 0} {a b c : Channel} {p q : List ℕ} (r : Result T SayFault)
    → IsSaid a b p → a.faults ≤ b.faults → Says b r c q → Says a r c (p ++ q)
says-then (Ok x) said rose next = record {
  said = said-then said next.said;
  cut = tt;
  failed = λ none. let h = next.failed none in omega (arith, h, rose);
  count = omega (arith, rose, next.count);
}
says-then (Err f) said rose next = record {
  said = tt;
  cut = broken-after said next.cut;
  failed = λ write. let h = next.failed write in omega (arith, h, rose);
  count = omega (arith, rose, next.count);
}

-- the fault of a call is handed on, and a further text is not said
pub says-raised : {T U : Type 0} {a b : Channel} {p : List ℕ} {f : SayFault} (r : Result U SayFault)
    (q : List ℕ)
    → IsErrAnd r (λ e. e ≡ f) → Says {T = T} a (Err f) b p → Says a r b (p ++ q)
says-raised {T} {U} {a} {b} {p} {f} r q raised call =
    let is = err_from_is_err_and r raised in
    let P : Result U SayFault → Type 0 = λ x. Says a x b (p ++ q) in
    subst P (sym (is.1 ∙ ap Err is.2)) (record {
      said = tt;
      cut = broken-before q call.cut;
      failed = λ write. let same : f ≡ fault.Write = cc in call.failed (ap Err same);
      count = call.count;
    })

-- one piece more of what is left is said
pub up_to-said : {T : Type 0} {a b c : Channel} {text left piece more : List ℕ} (x : T)
    → IsSaidUpTo a b text left → piece ++ more ≡ left → Says b (Ok x) c piece
    → IsSaidUpTo a c text more
up_to-said {T} {a} {b} {c} {text} {left} {piece} {more} x h splits call = record {
  done = h.done ++ piece;
  splits = append_assoc h.done piece more ∙ ap (λ y. h.done ++ y) splits ∙ h.splits;
  said = said-then h.said call.said;
  count = omega (arith, h.count, call.count);
}

-- one piece more of what is left is broken off
pub up_to-raised : {T U : Type 0} {a b c : Channel} {text left piece : List ℕ} {f : SayFault}
    (r : Result U SayFault) (more : List ℕ)
    → IsSaidUpTo a b text left → piece ++ more ≡ left → IsErrAnd r (λ e. e ≡ f)
    → Says {T = T} b (Err f) c piece → Says a r c text
up_to-raised {T} {U} {a} {b} {c} {text} {left} {piece} r more h splits raised call =
    let P : List ℕ → Type 0 = λ x. Says a r c x in
    subst P (ap (λ y. h.done ++ y) splits ∙ h.splits)
    (says-then r h.said h.count (says-raised r more raised call))

-- a line that is put behind nothing
pub rendered-alone : {T E : Type 0} (r : Result T E) (before after text : List ℕ) → before ≡ []
    → OnOk r (after ≡ before ++ text) → OnOk r (after ≡ text)
rendered-alone (Ok x) before after text none put = put ∙ ap (λ y. y ++ text) none
rendered-alone (Err e) before after text none put = tt

-- one line more is said
pub lines-said : {T : Type 0} {a b c : Channel} {head : List ℕ} {line : ℕ → List ℕ} {n : ℕ} (x : T)
    → AreLinesSaid a b head line n → Says b (Ok x) c (line n) → AreLinesSaid a c head line (n + 1)
lines-said {T} {a} {b} {c} {head} {line} {n} x h call = record {
  said =
      let P : List ℕ → Type 0 = λ y. IsSaid a c y in
      rw add-one (subst P (append_assoc head (texts_below line n) (line n))
      (said-then h.said call.said));
  count = omega (arith, h.count, call.count);
}

-- the lines from a place on
lines_left : (line : ℕ → List ℕ) (n left : ℕ)
    → (rest : List ℕ) × (texts_below line n ++ rest ≡ texts_below line (n + left))
lines_left line n zero = (
  [],
  append-nil (texts_below line n)
      ∙ ap (texts_below line) (let e : n ≡ n + zero = omega arith in e),
)
lines_left line n (suc left) =
    let h = lines_left line n left in
    let e : suc (n + left) ≡ n + suc left = omega arith in (
      h.0 ++ line (n + left),
      sym (append_assoc (texts_below line n) h.0 (line (n + left)))
          ∙ ap (λ y. y ++ line (n + left)) h.1 ∙ ap (texts_below line) e,
    )

-- a line is broken off, and those behind it are not said
pub lines-raised : {T U : Type 0} {a b c : Channel} {head : List ℕ} {line : ℕ → List ℕ} {n size : ℕ}
    {f : SayFault} (r : Result U SayFault)
    → AreLinesSaid a b head line n → n < size → IsErrAnd r (λ e. e ≡ f)
    → Says {T = T} b (Err f) c (line n)
    → Says a r c (head ++ texts_below line size)
lines-raised {T} {U} {a} {b} {c} {head} {line} {n} {size} {f} r h below raised call =
    let left = lines_left line (n + 1) (size - (n + 1)) in
    let whole : (n + 1) + (size - (n + 1)) ≡ size = omega arith in
    let P : List ℕ → Type 0 = λ x. Says a r c x in
    let first : texts_below line (n + 1) ≡ texts_below line n ++ line n = rw add-one refl in
    subst P
    (append_assoc head (texts_below line n) (line n ++ left.0)
    ∙ ap (λ y. head ++ y) (sym (append_assoc (texts_below line n) (line n) left.0)
    ∙ ap (λ y. y ++ left.0) (sym first) ∙ left.1 ∙ ap (texts_below line) whole))
    (says-then r h.said h.count (says-raised r left.0 raised call))
