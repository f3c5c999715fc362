-- What is read from a stream, and written to one, piece by piece.
use Rattle.std.proofs.Common.{◌≡◌, ℕ, ◌+◌, ◌-◌, ◌<◌, ◌≤◌, List, [], ◌++◌, Option, Some, None, IfSome, length, take, drop, sym, ap, ◌∙◌, append_assoc, append-nil, length-append, length-take-le, take-append-drop, arith}
use Rattle.std.proofs.lemmas.List.{take_rest}
use Rattle.std.specs.Io.KnownBytes.{Consumes, IsAtEnd}

-- a reader that is at its end gave all that it had
pub all_read : (a b c : Option (List ℕ)) (bytes last : List ℕ) → Consumes a b bytes → Consumes b c last → last ≡ [] → IsAtEnd c → IfSome a (λ all. bytes ≡ all)
all_read None b c bytes last first next none end = tt
all_read (Some x) None c bytes last first next none end = absurd first
all_read (Some x) (Some y) None bytes last first next none end = absurd next
all_read (Some x) (Some y) (Some z) bytes last first next none end =
    sym (first ∙ ap (λ l. bytes ++ l) (next ∙ ap (λ l. l ++ z) none ∙ end) ∙ append-nil bytes)

-- a reader that gave more than the limit had more
pub more_had : (a b : Option (List ℕ)) (bytes : List ℕ) (limit : ℕ) → Consumes a b bytes → limit < length bytes → IfSome a (λ all. limit < length all)
more_had None b bytes limit given more = tt
more_had (Some x) None bytes limit given more = absurd given
more_had (Some x) (Some y) bytes limit given more =
    let long : length x ≡ length bytes + length y = ap length given ∙ length-append bytes y in omega arith

-- n bytes of the rest join the prefix
pub prefix_grows : (all prefix rest : List ℕ) (n : ℕ) → all ≡ prefix ++ rest → all ≡ (prefix ++ take n rest) ++ take (length rest - n) (drop n rest)
prefix_grows all prefix rest n whole =
    whole ∙ ap (λ l. prefix ++ l) (sym (take-append-drop n rest)) ∙ sym (append_assoc prefix (take n rest) (drop n rest))
    ∙ ap (λ l. (prefix ++ take n rest) ++ l) (sym (take_rest rest n))

-- what was kept and a piece that found no room were both taken
pub both_taken : (bytes chunk : List ℕ) (len count : ℕ) → len ≡ length bytes → count ≤ length chunk → len + count ≡ length (bytes ++ take count chunk)
both_taken bytes chunk len count kept within =
    let joined : length (bytes ++ take count chunk) ≡ length bytes + length (take count chunk) = length-append bytes (take count chunk) in
    let piece : length (take count chunk) ≡ count = length-take-le count chunk within in
    omega arith
