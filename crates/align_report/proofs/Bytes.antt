-- Bytes of a memory as texts.
use Rattle.std.proofs.Common.{◌≡◌, ℕ, ◌+◌, ◌^◌, ◌<◌, List, ◌++◌, add-one, append_assoc, refl, sym, ◌∙◌, ap, arith}
use Rattle.memory_spans.specs.Memory.{address_plus, bytes_at}
use Rattle.text_parts.specs.Bytes.{byte_text, bytes_text}
use Rattle.text_parts.proofs.ByteTexts.{bytes_text-append}

-- one byte of a memory more
pub memory_more : (memory : ℕ → ℕ) (at k : ℕ) (old now new : List ℕ) (byte : ℕ) → at + k < 2 ^ 64 → byte ≡ memory (at + k)
    → now ≡ old ++ bytes_text (bytes_at memory at k) → new ≡ now ++ byte_text byte → new ≡ old ++ bytes_text (bytes_at memory at (k + 1))
memory_more memory at k old now new byte small is so_far more =
    let here : address_plus at k ≡ at + k = omega arith in
    more ∙ ap (λ b. now ++ byte_text b) (is ∙ ap memory (sym here)) ∙ ap (λ t. t ++ byte_text (memory (address_plus at k))) so_far
    ∙ append_assoc old (bytes_text (bytes_at memory at k)) (byte_text (memory (address_plus at k)))
    ∙ ap (λ t. old ++ t) (sym (bytes_text-append (bytes_at memory at k) (memory (address_plus at k)))) ∙ rw add-one refl
