-- What a read from memory gives.
use Rattle.std.proofs.Common.{◌≡◌, ℕ, ◌+◌, ◌≤◌, List, ◌++◌, length, take, drop, ap, ◌∙◌, sym, take-append-drop}
use Rattle.std.proofs.lemmas.List.{drop-drop, length-take-le}
use Rattle.std.proofs.Math.Seq.{take-append_seam}

-- after n bytes were copied to the front of the room, what was left is those and what is left behind them
pub gives_next : (bytes left copied room : List ℕ) (read n : ℕ)
    → left ≡ drop read bytes → copied ≡ take n left → n ≤ length left
    → left ≡ take n (copied ++ room) ++ drop (read + n) bytes
gives_next bytes left copied room read n is_left is_copied h =
    let long : length copied ≡ n = ap length is_copied ∙ length-take-le n left h in
    let prefix : take n (copied ++ room) ≡ take n left =
    ap (λ k. take k (copied ++ room)) (sym long) ∙ take-append_seam copied room ∙ is_copied in
    let back : drop n left ≡ drop (read + n) bytes = ap (drop n) is_left ∙ drop-drop n read bytes in
    sym (take-append-drop n left) ∙ ap (λ l. l ++ drop n left) (sym prefix)
    ∙ ap (λ l. take n (copied ++ room) ++ l) back
