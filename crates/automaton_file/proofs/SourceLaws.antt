-- Sources and refusals are determined by their bytes, and by the first of them alone where they
-- are too many.
use Rattle.std.proofs.Common.{◌≡◌, ◌⊎◌, inl, inr, ◌<◌, ◌≤◌, ℕ, ◌+◌, List, [], ◌∷◌, length, take, sym, ap, ◌∙◌, arith, subst}
use Rattle.std.specs.Prelude.{Option, Some, None}
use Rattle.std.proofs.lemmas.Bool.{both_ways}
use Rattle.std.proofs.lemmas.List.{length-take, take_all}
use Rattle.expression_theory.specs.Scan.{classes}
use Rattle.expression_theory.proofs.Texts.{one_tree}
use Rattle.automaton_file.specs.declared.sources.Wrong.{Wrong}
use Rattle.automaton_file.specs.LineText.{text_lines, parts, behind_first}
use Rattle.automaton_file.specs.FileText.{letters_in, BodyText, OfAutomaton, OfExpression, most_bytes, SourceText, IsSource, IsWrong, code_of, IsRefusal, too_long, bad_line, missing_part}
use Rattle.automaton_file.specs.Parts.{Lines}
use Rattle.automaton_file.specs.Reading.{ReadsBody, ReadsSource, IsRead}
use Rattle.automaton_file.proofs.ReadSources.{source_is_read, read_is_source}
use Rattle.automaton_file.proofs.Refusals.{answer, same_pair, refusal_answer, wrong_answer, source_answer, read_or_refusal}

one_body : (letters body : List ℕ) (more : Lines) (b c : BodyText) → ReadsBody letters body more b
    → ReadsBody letters body more c → b ≡ c
one_body letters body more (OfAutomaton m) (OfAutomaton n) h k = ap OfAutomaton (h.1 ∙ sym k.1)
one_body letters body more (OfAutomaton m) (OfExpression t) h k = absurd (both_ways _ h.0 k.0)
one_body letters body more (OfExpression s) (OfAutomaton n) h k = absurd (both_ways _ k.0 h.0)
one_body letters body more (OfExpression s) (OfExpression t) h k =
    ap OfExpression (one_tree (classes letters (behind_first body)) s t h.1 k.1)

same_source : (s t : SourceText) → s.letters ≡ t.letters → s.body ≡ t.body → s ≡ t
same_source s t h k =
    ap (λ (letters : List ℕ). record { letters = letters; body = s.body }) h
    ∙ ap (λ (body : BodyText). record { letters = t.letters; body = body }) k

one_spelled : (parts : Lines) (s t : SourceText) → ReadsSource parts s → ReadsSource parts t → s ≡ t
one_spelled [] s t h k = absurd h
one_spelled (header ∷ []) s t h k = absurd h
one_spelled (header ∷ alphabet ∷ []) s t h k = absurd h
one_spelled (header ∷ alphabet ∷ body ∷ more) s t h k =
    same_source s t (h.0 ∙ sym k.0) (one_body (letters_in alphabet) body more s.body t.body h.1 k.1)

pub one_source : (bytes : List ℕ) (s t : SourceText) → IsSource bytes s → IsSource bytes t → s ≡ t
one_source bytes s t h k =
    one_spelled (parts (text_lines bytes)) s t (source_is_read bytes s h).same
    (source_is_read bytes t k).same

pub one_refusal : (bytes : List ℕ) (at code line other : ℕ) → IsRefusal bytes at code
    → IsRefusal bytes line other → (at ≡ line) × (code ≡ other)
one_refusal bytes at code line other h k =
    let (f, is, found) = refusal_answer bytes at code h in
    let (g, is_too, found_too) = refusal_answer bytes line other k in
    let same = same_pair (at, f) (line, g) (sym found ∙ found_too) in
    (same.0, is ∙ ap code_of same.1 ∙ sym is_too)

no_answer : (o : Option (ℕ × Wrong)) (x : ℕ × Wrong) → o ≡ None → o ≡ Some x → ⊥
no_answer None x e h = absurd (cc)
no_answer (Some y) x e h = absurd (cc)

pub refusal_spells_none : (bytes : List ℕ) (s : SourceText) (at code : ℕ) → IsSource bytes s
    → ¬ IsRefusal bytes at code
refusal_spells_none bytes s at code h k =
    no_answer (answer bytes) (at, k.fault) (source_answer bytes s (source_is_read bytes s h))
    (wrong_answer bytes at k.fault k.is_wrong)

-- a text spells a source or is refused
pub source_or_refusal : (bytes : List ℕ) → ((s : SourceText) × IsSource bytes s)
    ⊎ ((at code : ℕ) × IsRefusal bytes at code)
source_or_refusal bytes = by (read_or_refusal bytes)
  where
    by : ((s : SourceText) × IsRead bytes s) ⊎ ((at code : ℕ) × IsRefusal bytes at code)
        → ((s : SourceText) × IsSource bytes s) ⊎ ((at code : ℕ) × IsRefusal bytes at code)
    by (inl (s, h)) = inl (s, read_is_source bytes s h)
    by (inr refusal) = inr refusal

-- a short prefix is all
pub prefix_short : (n : ℕ) (bytes : List ℕ) → length (take (n + 1) bytes) ≤ n
    → take (n + 1) bytes ≡ bytes
prefix_short n bytes h = take_all (n + 1) bytes (omega (arith, length-take (n + 1) bytes))

pub prefix_spells : (bytes : List ℕ) (s : SourceText) → IsSource (take (most_bytes + 1) bytes) s
    → take (most_bytes + 1) bytes ≡ bytes
prefix_spells bytes s h = prefix_short most_bytes bytes h.short

-- a long prefix is of a long text
long_front : (n : ℕ) (bytes : List ℕ) → n < length (take (n + 1) bytes) → n < length bytes
long_front n bytes h = omega (arith, length-take (n + 1) bytes)

wrong_whole : (bytes prefix : List ℕ) (at : ℕ) (fault : Wrong)
    → (length prefix ≤ most_bytes → prefix ≡ bytes)
    → (most_bytes < length prefix → most_bytes < length bytes) → IsWrong prefix at fault
    → IsWrong bytes at fault
wrong_whole bytes prefix at fault short long (too_long h) = too_long (long h)
wrong_whole bytes prefix at fault short long (bad_line h k) =
    subst (λ (bs : List ℕ). IsWrong bs at fault) (short h) (bad_line h k)
wrong_whole bytes prefix at fault short long (missing_part h k) =
    subst (λ (bs : List ℕ). IsWrong bs at fault) (short h) (missing_part h k)

pub prefix_refused : (bytes : List ℕ) (at code : ℕ)
    → IsRefusal (take (most_bytes + 1) bytes) at code → IsRefusal bytes at code
prefix_refused bytes at code r = record {
  fault = r.fault;
  is_wrong =
      wrong_whole bytes (take (most_bytes + 1) bytes) at r.fault (prefix_short most_bytes bytes)
      (long_front most_bytes bytes) r.is_wrong;
  number = r.number;
}
