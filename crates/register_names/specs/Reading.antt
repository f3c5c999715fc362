-- The register that a name stands for, as functions on lists.
use Rattle.std.specs.Prelude.{ℕ, List, Option}
use Rattle.std.specs.Option.{option_map, option_or}
use Rattle.text_parts.specs.Places.{place_from}
use Rattle.register_names.specs.Names.{register_names}

-- the number of the register of w bits with this name
unfoldable pub register_number : ℕ → List ℕ → Option ℕ
register_number w name = place_from 0 (register_names w) name

-- the width and the number of the register of w bits with this name
abbrev pub register_by : ℕ → List ℕ → Option (ℕ × ℕ)
register_by w name = option_map (λ (n : ℕ). (w, n)) (register_number w name)

-- the width and the number of the register with this name
unfoldable pub register_named : List ℕ → Option (ℕ × ℕ)
register_named name =
    option_or (register_by 64 name)
    (option_or (register_by 32 name) (option_or (register_by 16 name) (option_or (register_by 8 name)
    (option_or (register_by 128 name) (register_by 256 name)))))
