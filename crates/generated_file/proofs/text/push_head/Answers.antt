use Rattle.std.proofs.Common.{◌≡◌, ℕ, List, ◌++◌, Result, Ok, Err, ap, sym, ◌∙◌, append_assoc}
use Rattle.std.specs.Prelude.{OnOk, codes}
use Rattle.std.specs.Fmt.{decimal}
use Rattle.generated_file.specs.Generated.{head_lines, text_of}
use Rattle.generated_file.proofs.text.push_head.Goals as goal

-- the three pieces of the head
head_pieces : {T E : Type 0} (r : Result T E) (t a b c : List ℕ) (size : ℕ)
    → a ≡ t ++ codes "synmon 1\nalphabet ab\nnfa " → b ≡ a ++ decimal size
    → OnOk r (c ≡ b ++ codes "\ninitial 0\nfinal 0\n")
    → OnOk r (c ≡ t ++ text_of (head_lines size))
unfolding head_lines
head_pieces (Ok v) t a b c size first second last =
    let front = codes "synmon 1\nalphabet ab\nnfa " in
    let back = codes "initial 0\nfinal 0\n" in
    last
    ∙ ap (λ (u : List ℕ). u ++ codes "\ninitial 0\nfinal 0\n")
    (second ∙ ap (λ (u : List ℕ). u ++ decimal size) first)
    ∙ append_assoc (t ++ front) (decimal size) (codes "\n" ++ back)
    ∙ append_assoc t front (decimal size ++ (codes "\n" ++ back))
    ∙ ap (λ (u : List ℕ). t ++ (front ++ u)) (sym (append_assoc (decimal size) (codes "\n") back))
head_pieces (Err e) t a b c size first second last = tt

pub returns : goal.returns
returns c =
    head_pieces c.push_bytes-2.result c.args.text.now.items c.push_bytes.new.text.items
    c.push_number.new.text.items c.push_bytes-2.new.text.items c.args.size
    c.in_ok-push_bytes.ensures c.in_ok-push_number.ensures c.push_bytes-2.ensures
