-- Laws of the names of registers.
use Rattle.std.specs.Prelude.{◌≡◌, ℕ, ◌<◌, List, Some}
use Rattle.register_names.specs.Names.{IsNamedWidth, IsRegisterName}
use Rattle.register_names.specs.Reading.{register_named, register_number}

-- each name stands for one register of one width, and is read as this; what is read as a register is its name
pub record NamesAreRead : Type 0 where
  pub one : (name : List ℕ) (v w m n : ℕ) → IsRegisterName name v m → IsRegisterName name w n → (v ≡ w) × (m ≡ n)
  pub only : (name : List ℕ) (w n : ℕ) → IsRegisterName name w n → register_named name ≡ Some (w, n)
  pub known : (name : List ℕ) (w n : ℕ) → register_named name ≡ Some (w, n) → IsRegisterName name w n
  pub number_only : (name : List ℕ) (w n : ℕ) → IsRegisterName name w n → register_number w name ≡ Some n
  pub number_known : (name : List ℕ) (w n : ℕ) → register_number w name ≡ Some n → IsRegisterName name w n

-- a register of each number below 16 has a name at each of the six widths, and no other has one
pub record NamesAreThere : Type 0 where
  pub there : (w n : ℕ) → IsNamedWidth w → n < 16 → (name : List ℕ) × IsRegisterName name w n
  pub alone : (name : List ℕ) (w n : ℕ) → IsRegisterName name w n → IsNamedWidth w × (n < 16)
