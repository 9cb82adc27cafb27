-- A text is well spelled exactly where it has no first fault.
use Rattle.std.proofs.Common.{◌≡◌, ℕ, zero, suc, ◌+◌, ◌<◌, List, [], ◌∷◌, ◌++◌, length, take, refl, sym, ap, ◌∙◌, arith, true, false, append_assoc, append-nil}
use Rattle.std.specs.Prelude.{Bool, cond, Option, Some, None, slice_index_or}
use Rattle.automaton_file.specs.declared.sources.Wrong.{Wrong}
use Rattle.automaton_file.specs.declared.sources.Wrong.TheVariants as wrong
use Rattle.automaton_file.specs.LineText.{fields, is_significant, parts}
use Rattle.automaton_file.specs.FileText.{line_fault, is_whole}
use Rattle.automaton_file.specs.Parts.{Lines}
use Rattle.automaton_file.specs.Reading.{IsWellSpelled, fault_else, first_fault}

cond_before : (b : Bool) (part : List ℕ) (more : Lines)
    → cond b (part ∷ more) more ≡ cond b (part ∷ []) [] ++ more
cond_before true part more = refl
cond_before false part more = refl

pub parts_cons : (t : List ℕ) (ts : List (List ℕ)) → parts (t ∷ ts) ≡ parts (t ∷ []) ++ parts ts
parts_cons t ts = cond_before (is_significant (fields t)) t (parts ts)

pub parts_behind : (earlier : Lines) (t : List ℕ) (ts : List (List ℕ))
    → earlier ++ parts (t ∷ ts) ≡ earlier ++ parts (t ∷ []) ++ parts ts
parts_behind earlier t ts = ap (λ (p : Lines). earlier ++ p) (parts_cons t ts)
    ∙ sym (append_assoc earlier (parts (t ∷ [])) (parts ts))

pub no_fault : (o : Option Wrong) (number : ℕ) (next : Option (ℕ × Wrong))
    → fault_else o number next ≡ None → (o ≡ None) × (next ≡ None)
no_fault None number next e = (refl, e)
no_fault (Some code) number next e = absurd (cc)

no_missing_part : (b : Bool) (number : ℕ)
    → cond {A = Option (ℕ × Wrong)} b None (Some (number, wrong.Missing)) ≡ None → b ≡ true
no_missing_part true number e = refl
no_missing_part false number e = absurd (cc)

lines_pass : (earlier : Lines) (number : ℕ) (texts : List (List ℕ))
    → first_fault earlier number texts ≡ None → (i : ℕ) → i < length texts
    → line_fault (earlier ++ parts (take i texts)) (slice_index_or texts i []) ≡ None
lines_pass earlier number [] e i h = absurd (omega arith)
lines_pass earlier number (t ∷ ts) e zero h =
    ap (λ (p : Lines). line_fault p t) (append-nil earlier)
    ∙ (no_fault (line_fault earlier t) number
    (first_fault (earlier ++ parts (t ∷ [])) (number + 1) ts) e).0
lines_pass earlier number (t ∷ ts) e (suc i) h =
    ap (λ (p : Lines). line_fault p (slice_index_or ts i [])) (parts_behind earlier t (take i ts))
    ∙ lines_pass (earlier ++ parts (t ∷ [])) (number + 1) ts
    (no_fault (line_fault earlier t) number
    (first_fault (earlier ++ parts (t ∷ [])) (number + 1) ts) e).1 i (omega arith)

no_part_missing : (earlier : Lines) (number : ℕ) (texts : List (List ℕ))
    → first_fault earlier number texts ≡ None → is_whole (earlier ++ parts texts) ≡ true
no_part_missing earlier number [] e = ap is_whole (append-nil earlier)
    ∙ no_missing_part (is_whole earlier) number e
no_part_missing earlier number (t ∷ ts) e =
    ap is_whole (parts_behind earlier t ts)
    ∙ no_part_missing (earlier ++ parts (t ∷ [])) (number + 1) ts
    (no_fault (line_fault earlier t) number
    (first_fault (earlier ++ parts (t ∷ [])) (number + 1) ts) e).1

pub well_spelled : (texts : List (List ℕ)) → first_fault [] 1 texts ≡ None → IsWellSpelled texts
well_spelled texts e = record {
  passes = lines_pass [] 1 texts e;
  whole = no_part_missing [] 1 texts e;
}

no_first_fault : (earlier : Lines) (number : ℕ) (texts : List (List ℕ))
    → ((i : ℕ) → i < length texts
    → line_fault (earlier ++ parts (take i texts)) (slice_index_or texts i []) ≡ None)
    → is_whole (earlier ++ parts texts) ≡ true → first_fault earlier number texts ≡ None
no_first_fault earlier number [] pass whole =
    ap (λ (b : Bool). cond b None (Some (number, wrong.Missing)))
    (ap is_whole (sym (append-nil earlier)) ∙ whole)
no_first_fault earlier number (t ∷ ts) pass whole =
    ap (λ (o : Option Wrong). fault_else o number
    (first_fault (earlier ++ parts (t ∷ [])) (number + 1) ts))
    (ap (λ (p : Lines). line_fault p t) (sym (append-nil earlier)) ∙ pass zero (omega arith))
    ∙ no_first_fault (earlier ++ parts (t ∷ [])) (number + 1) ts
    (λ i h. ap (λ (p : Lines). line_fault p (slice_index_or ts i []))
    (sym (parts_behind earlier t (take i ts))) ∙ pass (suc i) (omega arith))
    (ap is_whole (sym (parts_behind earlier t ts)) ∙ whole)

pub spelled_has_no_fault : (texts : List (List ℕ)) → IsWellSpelled texts
    → first_fault [] 1 texts ≡ None
spelled_has_no_fault texts h = no_first_fault [] 1 texts h.passes h.whole
