-- Four instructions, pushed one behind the other, are the loop.
use Rattle.std.proofs.Common.{◌≡◌, ℕ, ◌+◌, ◌^◌, true, nat_lt, if◌then◌else◌, List, [], ◌∷◌, ◌++◌, length, Result, Ok, Err, IfOk, codes, refl, sym, ◌∙◌, ap, subst}
use Rattle.insn_table.specs.declared.insn.Insn.{Insn}
use Rattle.insn_table.specs.declared.insn.Operand.{Operand}
use Rattle.insn_table.specs.declared.insn.Operand.TheVariants.{Reg, Target}
use Rattle.insn_table.specs.declared.build_error.BuildError.{BuildError}
use Rattle.insn_table.specs.declared.build_error.BuildError.TheVariants.{TooMany}
use Rattle.insn_table.specs.Building.{Appends, assembled, next_insn}
use Rattle.step_bench.specs.Loop.{IsLoop, element}

-- an instruction that is made behind few others is the one of its line
made-behind : (before : List Insn) (mnemonic : List ℕ) (args : List Operand) (i : Insn) (n : ℕ) → length before + 1 ≡ n → nat_lt n (2 ^ 32) ≡ true
    → next_insn before mnemonic args ≡ Ok i → assembled mnemonic args n ≡ Ok i
made-behind before mnemonic args i n count few made =
    let P : ℕ → Type 0 = λ k. (if nat_lt k (2 ^ 32) then assembled mnemonic args k else Err TooMany) ≡ Ok i in
    let here = subst P count made in
    rw few at here

-- what holds of what was given holds of what it implies
pub ok-implies : {T E : Type 0} (P Q : T → Type 0) (r : Result T E) → IfOk r P → ((x : T) → P x → Q x) → IfOk r Q
ok-implies P Q (Ok x) h f = f x h
ok-implies P Q (Err e) h f = tt

-- four pushes
pub four-pushed : (z a b c d : List Insn) (m1 m2 m3 m4 : List ℕ) (x1 x2 x3 x4 : List Operand)
    → z ≡ [] → Appends z a (next_insn z m1 x1) → Appends a b (next_insn a m2 x2) → Appends b c (next_insn b m3 x3) → Appends c d (next_insn c m4 x4)
    → m1 ≡ codes "addl" → m2 ≡ codes "movl" → m3 ≡ codes "incb" → m4 ≡ codes "jmp"
    → x1 ≡ element 7 ∷ Reg 0 32 ∷ [] → x2 ≡ Reg 0 32 ∷ element 6 ∷ [] → x3 ≡ Reg 1 8 ∷ [] → x4 ≡ Target 0 ∷ [] → IsLoop d
four-pushed z a b c d m1 m2 m3 m4 x1 x2 x3 x4 ez p q r s n1 n2 n3 n4 y1 y2 y3 y4 =
    let ea : a ≡ p.insn ∷ [] = p.behind ∙ ap (λ l. l ++ p.insn ∷ []) ez in
    let eb : b ≡ p.insn ∷ q.insn ∷ [] = q.behind ∙ ap (λ l. l ++ q.insn ∷ []) ea in
    let ec : c ≡ p.insn ∷ q.insn ∷ r.insn ∷ [] = r.behind ∙ ap (λ l. l ++ r.insn ∷ []) eb in
    let ed : d ≡ p.insn ∷ q.insn ∷ r.insn ∷ s.insn ∷ [] = s.behind ∙ ap (λ l. l ++ s.insn ∷ []) ec in
    let made : (m m' : List ℕ) (x x' : List Operand) (n : ℕ) (i : Insn) → m ≡ m' → x ≡ x' → assembled m x n ≡ Ok i → assembled m' x' n ≡ Ok i =
    λ m m' x x' n i e f h. subst (λ y. assembled m' y n ≡ Ok i) f (subst (λ w. assembled w x n ≡ Ok i) e h) in
    record {
      read = p.insn;
      is_read = made _ _ _ _ 1 _ n1 y1 (made-behind z m1 x1 p.insn 1 (ap (λ l. length l + 1) ez) refl p.is_made);
      write = q.insn;
      is_write = made _ _ _ _ 2 _ n2 y2 (made-behind a m2 x2 q.insn 2 (ap (λ l. length l + 1) ea) refl q.is_made);
      next = r.insn;
      is_next = made _ _ _ _ 3 _ n3 y3 (made-behind b m3 x3 r.insn 3 (ap (λ l. length l + 1) eb) refl r.is_made);
      back = s.insn;
      is_back = made _ _ _ _ 4 _ n4 y4 (made-behind c m4 x4 s.insn 4 (ap (λ l. length l + 1) ec) refl s.is_made);
      all = ed;
    }
