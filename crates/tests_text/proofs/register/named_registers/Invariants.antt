use Rattle.std.proofs.Common.{◌≡◌, ◌-◌, ℕ, Option, length, take}
use Rattle.std.specs.Option.{option_map}
use Rattle.serde_json.specs.View.{view}
use Rattle.register_names.specs.Names.{register_names}
use Rattle.tests_text.specs.Reading.{collected, name_at, register_of}
use Rattle.tests_text.specs.Shapes.{member_of}
use Rattle.tests_text.proofs.Collecting.{before_those}
use Rattle.tests_text.proofs.register.named_registers.Given as goal

-- the registers so far, and those that are left
abbrev pub invariant-loop-n : goal.invariant-loop-n
invariant-loop-n l =
    let value : ℕ → Option ℕ = λ n. register_of l.k n (member_of (option_map (λ v. view v.now) l.found) (name_at (register_names 64) n)) in
    (collected value 0 16 ≡ before_those (take l.n l.regs) (collected value l.n (16 - l.n))) × (length l.regs ≡ 16)
