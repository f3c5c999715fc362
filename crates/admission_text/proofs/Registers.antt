-- What the code reads of registers, against the grammar.
use Rattle.std.proofs.Common.{◌≡◌, ℕ, true, false, cond, leb, List, [], ◌∷◌, Some, refl, subst, arith}
use Rattle.std.specs.List.{AllZip}
use Rattle.std.proofs.lemmas.Bool.{leb-false, leb-true, le-leb, lt-leb}
use Rattle.std.proofs.lemmas.Option.{same_Some}
use Rattle.insn_ops.specs.declared.output.Output.{Output}
use Rattle.insn_ops.specs.declared.output.Output.TheVariants.{Reg, Vec}
use Rattle.register_names.specs.Names.{IsRegisterText}
use Rattle.register_names.specs.Reading.{register_named, register_number}
use Rattle.register_names.proofs.NameTexts as names
use Rattle.text_parts.specs.Cuts.{◌>>=◌, after_byte}
use Rattle.text_parts.proofs.Options.{after_byte-known, bind_some}
use Rattle.admission_text.specs.Names.{IsGeneral, IsOutputText}
use Rattle.admission_text.specs.Reading.{output_at, output_of, outputs_of, register_of}

-- registers of 64 bits

pub register-known : (text : List ℕ) (n : ℕ) → register_of text ≡ Some n → IsGeneral text n 64
unfolding register_of
register-known text n h =
    let name = bind_some (after_byte 37 text) (register_number 64) n h in
    (record { name = name.0; known = names.number-named 64 name.0 n name.2; spelled = after_byte-known 37 text name.0 name.1 }, omega arith)

pub register-only : (text : List ℕ) (n : ℕ) → IsGeneral text n 64 → register_of text ≡ Some n
unfolding register_of after_byte
register-only text n is = let known = names.number-only 64 is.0.name n is.0.known in rw (is.0.spelled) known

-- outputs

output-is : (text : List ℕ) (w n : ℕ) → IsRegisterText text n w → IsOutputText text (output_at w n)
output-is text w n is =
    elim (leb w 64) as (λ t. leb w 64 ≡ t → IsOutputText text (cond t (Reg n w) (Vec n w)))
    [ true ↦ λ e. (is, leb-true w 64 e) | false ↦ λ e. (is, leb-false w 64 e) ] refl

pub output-known : (text : List ℕ) (o : Output) → output_of text ≡ Some o → IsOutputText text o
unfolding output_of
output-known text o h =
    let name = bind_some (after_byte 37 text) (λ name. register_named name >>= λ (r : ℕ × ℕ). Some (output_at r.0 r.1)) o h in
    let r = bind_some (register_named name.0) (λ (r : ℕ × ℕ). Some (output_at r.0 r.1)) o name.2 in
    let is : IsRegisterText text r.0.1 r.0.0 =
    record { name = name.0; known = names.register-known name.0 r.0.0 r.0.1 r.1; spelled = after_byte-known 37 text name.0 name.1 } in
    subst (λ (x : Output). IsOutputText text x) (same_Some (output_at r.0.0 r.0.1) o r.2) (output-is text r.0.0 r.0.1 is)

pub output-only : (text : List ℕ) (o : Output) → IsOutputText text o → output_of text ≡ Some o
unfolding output_of after_byte
output-only text (Reg n w) is =
    let read = names.register-only w is.0.name n is.0.known in
    let low : leb w 64 ≡ true = le-leb w 64 is.1 in
    rw (is.0.spelled, read, low) refl
output-only text (Vec n w) is =
    let read = names.register-only w is.0.name n is.0.known in
    let high : leb w 64 ≡ false = lt-leb w 64 is.1 in
    rw (is.0.spelled, read, high) refl

-- words that are outputs

pub outputs-known : (words : List (List ℕ)) (live : List Output) → outputs_of words ≡ Some live → AllZip IsOutputText words live
unfolding outputs_of
outputs-known [] [] h = tt
outputs-known [] (o ∷ os) h = absurd (cc)
outputs-known (word ∷ more) live h =
    let o = bind_some (output_of word) (λ output. outputs_of more >>= λ rest. Some (output ∷ rest)) live h in
    let os = bind_some (outputs_of more) (λ rest. Some (o.0 ∷ rest)) live o.2 in
    let means : o.0 ∷ os.0 ≡ live = cc in
    subst (λ (x : List Output). AllZip IsOutputText (word ∷ more) x) means (output-known word o.0 o.1, outputs-known more os.0 os.1)

pub outputs-only : (words : List (List ℕ)) (live : List Output) → AllZip IsOutputText words live → outputs_of words ≡ Some live
unfolding outputs_of
outputs-only [] [] h = refl
outputs-only [] (o ∷ os) h = absurd h
outputs-only (word ∷ more) [] h = absurd h
outputs-only (word ∷ more) (o ∷ os) h = let a = output-only word o h.0 in let b = outputs-only more os h.1 in rw (a, b) refl
