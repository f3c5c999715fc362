-- Laws of what is read: of words, numbers and names, and of what is made of values that are read rightly.
use Rattle.std.specs.Prelude.{◌≡◌, ℕ, Bool, true, List, ◌∷◌, length}
use Rattle.text_codes.specs.Codes.{Reads}
use Rattle.text_codes.specs.Names.{are_apart, AreNames, IsAmong}
use Rattle.text_codes.specs.Numbers.{ended, IsEnded, IsRange, number_at, signed_text, IsSigned, signed_at}
use Rattle.text_codes.specs.Readers.{word_at, names_at}

-- words, numbers, numbers with a sign, and names that are apart are read rightly
pub record PartsAreRead : Type 0 where
  pub words : (word : List ℕ) → Reads (λ (u : Unit {0}). word) (λ u. Unit {0}) (word_at word)
  pub numbers : (limit low : ℕ) (ends : ℕ → ℕ → Bool) → IsRange limit low ends
      → Reads ended (IsEnded limit low ends) (number_at limit low ends)
  pub signed : (below above : ℕ) (ends : ℕ → ℕ → Bool) → IsRange below 1 ends → IsRange above 0 ends
      → Reads signed_text (IsSigned below above ends) (signed_at below above ends)
  pub names : (f : ℕ → List ℕ) (n : ℕ) (name : List ℕ) (names : List (List ℕ)) → AreNames f n (name ∷ names)
      → are_apart (name ∷ names) ≡ true → Reads f (IsAmong n (length (name ∷ names))) (names_at n (name ∷ names))
