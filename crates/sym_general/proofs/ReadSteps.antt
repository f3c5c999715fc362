-- Flags that are still to be read, one after the other.
use Rattle.std.proofs.Common.{◌≡◌, ℕ, zero, suc, ◌+◌, ◌<◌, false, List, [], ◌∷◌, length, get_or, drop, sym, ◌∙◌, ap, subst, arith, add-one}
use Rattle.std.specs.Prelude.{slice_set}
use Rattle.std.specs.List.{AllByRecursion}
use Rattle.std.proofs.Math.Seq.{drop-cons, drop-length}
use Rattle.node_values.specs.declared.node.Node.{Node}
use Rattle.node_values.specs.Sheets.{IsSheet}
use Rattle.terms.specs.Made.{Made}
use Rattle.address_nodes.proofs.Growing.{still_longer}
use Rattle.sym_rows.specs.declared.lazy_flags.SymFlag.{SymFlag}
use Rattle.sym_rows.specs.declared.lazy_flags.SymFlag.TheVariants.{Built}
use Rattle.sym_rows.specs.LazyFlags.{built_read}
use Rattle.sym_general.specs.PathFlags.{AreFlags, FlagsStay, WithFlags, flag_of, flags_read, is_unset, numbered, some_unset}
use Rattle.sym_general.proofs.FlagReads.{AreRead, all_read, five_read, neither, one_read, read_one, set_behind}

-- what holds of all holds of one, and of those behind it
all_at : (P : ℕ → Type 0) (xs : List ℕ) (k : ℕ) → AllByRecursion P xs → k < length xs → P (get_or xs k 0)
all_at P [] k h b = absurd (omega (arith, b))
all_at P (x ∷ xs) zero h b = h.0
all_at P (x ∷ xs) (suc k) h b = all_at P xs k h.1 (omega (arith, b))

all_behind : (P : ℕ → Type 0) (xs : List ℕ) (k : ℕ) → AllByRecursion P xs → AllByRecursion P (drop k xs)
all_behind P xs zero h = h
all_behind P [] (suc k) h = tt
all_behind P (x ∷ xs) (suc k) h = all_behind P xs k h.1

module _ (ns : List Node) (path : List SymFlag) (numbers : List ℕ) (k : ℕ) where
  abbrev number : ℕ
  number = get_or numbers k 0

  abbrev one : Made
  one = built_read ns (numbered number) (flag_of path number)

  abbrev path_one : List SymFlag
  path_one = slice_set path number (Built one.id)

  here : k < length numbers → drop k numbers ≡ number ∷ drop (k + 1) numbers
  here b = rw add-one (drop-cons numbers k 0 b)

  pub read_step : k < length numbers → flags_read ns path (drop k numbers) ≡ flags_read one.nodes path_one (drop (k + 1) numbers)
  unfolding flags_read
  read_step b = ap (flags_read ns path) (here b)

  pub read_end : k ≡ length numbers → flags_read ns path (drop k numbers) ≡ record { nodes = ns; flags = path }
  unfolding flags_read
  read_end e = ap (λ j. flags_read ns path (drop j numbers)) e ∙ ap (flags_read ns path) (drop-length numbers)

  module _ (sheet : IsSheet ns) (flags : AreFlags ns path) (five : length path ≡ 5) (below : AllByRecursion (λ i. i < 5) numbers)
      (set : some_unset path (drop k numbers) ≡ false) (b : k < length numbers) where
    pub number_below : number < 5
    number_below = all_at (λ i. i < 5) numbers k below b

    sets : (is_unset (flag_of path number) ≡ false) × (some_unset path (drop (k + 1) numbers) ≡ false)
    sets = neither (is_unset (flag_of path number)) (some_unset path (drop (k + 1) numbers)) (subst (λ is. some_unset path is ≡ false) (here b) set)

    pub number_set : is_unset (flag_of path number) ≡ false
    number_set = sets.0

    pub step_stays : FlagsStay ns path one.nodes path_one
    step_stays = one_read ns path sheet flags five number number_below number_set

    pub rest_set : some_unset path_one (drop (k + 1) numbers) ≡ false
    rest_set = set_behind path path_one (drop (k + 1) numbers) step_stays.unset sets.1

    pub read_too_long : 65536 < length one.nodes → 65536 < length (flags_read ns path (drop k numbers)).nodes
    read_too_long long =
        let after : WithFlags = flags_read one.nodes path_one (drop (k + 1) numbers) in
        let rest : AreRead one.nodes path_one (drop (k + 1) numbers) after =
        all_read one.nodes path_one (read_one ns path sheet flags five number number_below number_set).sheet step_stays.flags
        (five_read ns path sheet flags five number number_below number_set) (drop (k + 1) numbers) (all_behind (λ i. i < 5) numbers (k + 1) below) rest_set in
        subst (λ (w : WithFlags). 65536 < length w.nodes) (sym (read_step b)) (still_longer one.nodes after.nodes rest.stay.extends long)
