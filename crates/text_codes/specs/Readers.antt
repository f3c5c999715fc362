-- What code computes that reads values one behind another: a value and the rest of the text, or what is left of the
-- text from the first wrong byte on.
use Rattle.std.specs.Prelude.{ℕ, suc, zero, ◌==◌, nat_lt, Bool, length, if◌then◌else◌, List, [], ◌∷◌, Result, Ok, Err}
use Rattle.outcomes.specs.Firsts.{◌>>=◌}

-- what is read of a text
abbrev pub Reading : Type 0 → Type 0
Reading V = Result (V × List ℕ) (List ℕ)

-- a fixed word
unfoldable pub word_at : List ℕ → List ℕ → Reading Unit
word_at [] text = Ok (tt, text)
word_at (c ∷ word) [] = Err []
word_at (c ∷ word) (b ∷ text) = if b == c then word_at word text else Err (b ∷ text)

-- a word, and a value behind it
abbrev pub behind : {V : Type 0} → List ℕ → (List ℕ → Reading V) → List ℕ → Reading V
behind word r text = word_at word text >>= λ x. r x.1

-- a value, and behind it another, which is read by what the first is
abbrev pub then_at : {A B : Type 0} → (List ℕ → Reading A) → (A → List ℕ → Reading B) → List ℕ → Reading (A × B)
then_at r s text = r text >>= λ x. (s x.0 x.1 >>= λ y. Ok ((x.0, y.0), y.1))

-- a value, and a value behind it
abbrev pub pair_at : {A B : Type 0} → (List ℕ → Reading A) → (List ℕ → Reading B) → List ℕ → Reading (A × B)
pair_at r s text = then_at r (λ a. s) text

-- a value made of what is read
abbrev pub made_at : {A B : Type 0} → (A → B) → (List ℕ → Reading A) → List ℕ → Reading B
made_at make r text = r text >>= λ x. Ok (make x.0, x.1)

-- so many values, one behind another
unfoldable pub times_at : {V : Type 0} → (List ℕ → Reading V) → ℕ → List ℕ → Reading (List V)
times_at r zero text = Ok ([], text)
times_at r (suc n) text = r text >>= λ x. (times_at r n x.1 >>= λ y. Ok (x.0 ∷ y.0, y.1))

-- a count, and so many values behind it
abbrev pub counted_at : {V : Type 0} → (List ℕ → Reading ℕ) → (List ℕ → Reading V) → List ℕ → Reading (List V)
counted_at {V = V} count r text = made_at (λ (p : ℕ × List V). p.1) (then_at count (times_at r)) text

-- behind this byte by the first reader, else by the second
abbrev pub choose_at : {V : Type 0} → ℕ → (List ℕ → Reading V) → (List ℕ → Reading V) → List ℕ → Reading V
choose_at c r s [] = s []
choose_at c r s (b ∷ text) = if b == c then r text else s (b ∷ text)

-- so many values, each but the last ended by a space, and the last by a newline; a reader is told the byte that ends
unfoldable pub line_at : {V : Type 0} → (ℕ → List ℕ → Reading V) → ℕ → List ℕ → Reading (List V)
line_at r zero text = Ok ([], text)
line_at r (suc zero) text = r 10 text >>= λ x. Ok (x.0 ∷ [], x.1)
line_at r (suc (suc n)) text = r 32 text >>= λ x. (line_at r (suc n) x.1 >>= λ y. Ok (x.0 ∷ y.0, y.1))

-- a count, and so many values behind it, each but the last ended by a space, and the last by a newline
abbrev pub counted_line_at : {V : Type 0} → (List ℕ → Reading ℕ) → (ℕ → List ℕ → Reading V) → List ℕ → Reading (List V)
counted_line_at {V = V} count r text = made_at (λ (p : ℕ × List V). p.1) (then_at count (line_at r)) text

-- values up to the end of a line, of which the byte that ended the last is known; each is read with the byte that ends it
unfoldable pub linked_at : {V : Type 0} → (List ℕ → Reading (V × ℕ)) → ℕ → ℕ → List ℕ → Reading (List V)
linked_at r zero e text = Err []
linked_at r (suc turns) e text =
    if e == 10 then Ok ([], text) else (r text >>= λ x. (linked_at r turns x.0.1 x.1 >>= λ y. Ok (x.0.0 ∷ y.0, y.1)))

-- values up to one that ends them
unfoldable pub until_at : {V : Type 0} → (V → Bool) → (List ℕ → Reading V) → ℕ → List ℕ → Reading (List V)
until_at is_end r zero text = Err []
until_at is_end r (suc turns) text =
    r text >>= λ x. if is_end x.0 then Ok ([], x.1) else (until_at is_end r turns x.1 >>= λ y. Ok (x.0 ∷ y.0, y.1))

-- of two answers the one that got further in the text
abbrev pub further : {V : Type 0} → Reading V → Reading V → Reading V
further (Ok x) q = Ok x
further (Err left) (Ok y) = Ok y
further (Err left) (Err rest) = if nat_lt (length rest) (length left) then Err rest else Err left

-- the number of one of these names, the first of which has this number
unfoldable pub names_at : ℕ → List (List ℕ) → List ℕ → Reading ℕ
names_at n [] text = Err text
names_at n (name ∷ names) text = further (made_at (λ (u : Unit {0}). n) (word_at name) text) (names_at (suc n) names text)

-- behind the first byte, by the reader that this byte has
abbrev pub letters_at : {V : Type 0} → List (ℕ × (List ℕ → Reading V)) → List ℕ → Reading V
letters_at [] text = Err text
letters_at (kind ∷ kinds) [] = Err []
letters_at (kind ∷ kinds) (b ∷ text) = if b == kind.0 then kind.1 text else letters_at kinds (b ∷ text)

-- so many values, numbered from a first number on
unfoldable pub numbered_at : {V : Type 0} → (ℕ → List ℕ → Reading V) → ℕ → ℕ → List ℕ → Reading (List V)
numbered_at r first zero text = Ok ([], text)
numbered_at r first (suc n) text = r first text >>= λ x. (numbered_at r (suc first) n x.1 >>= λ y. Ok (x.0 ∷ y.0, y.1))
