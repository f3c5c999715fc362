-- What the code reads of single JSON values.
use Rattle.std.proofs.Common.{◌≡◌, ℕ, List, Some, ap}
use Rattle.std.proofs.lemmas.Option.{same_Some}
use Rattle.serde_json.specs.Data.{Data, Items, Num, array, boolean, float, negative, null, number, object, string, unsigned}
use Rattle.serde_json.specs.Find.{as_array, as_str, as_u64}
use Rattle.tests_text.specs.Shapes.{IsWhole}
use Rattle.tests_text.specs.Reading.{whole_of}

num-known : (x : Num) (n : ℕ) → as_u64 x ≡ Some n → x ≡ unsigned n
num-known (unsigned m) n h = ap (λ (k : ℕ). unsigned k) (same_Some m n h)
num-known (negative z) n h = absurd (cc)
num-known (float x) n h = absurd (cc)

pub whole-known : (d : Data) (n : ℕ) → whole_of d ≡ Some n → IsWhole d n
whole-known null n h = absurd (cc)
whole-known (boolean b) n h = absurd (cc)
whole-known (number x) n h = ap (λ (y : Num). number y) (num-known x n h)
whole-known (string s) n h = absurd (cc)
whole-known (array ds) n h = absurd (cc)
whole-known (object ms) n h = absurd (cc)

pub whole-only : (d : Data) (n : ℕ) → IsWhole d n → whole_of d ≡ Some n
whole-only d n is = ap whole_of is

pub str-known : (d : Data) (text : List ℕ) → as_str d ≡ Some text → d ≡ string text
str-known null text h = absurd (cc)
str-known (boolean b) text h = absurd (cc)
str-known (number x) text h = absurd (cc)
str-known (string s) text h = ap (λ (t : List ℕ). string t) (same_Some s text h)
str-known (array ds) text h = absurd (cc)
str-known (object ms) text h = absurd (cc)

pub array-known : (d : Data) (ds : Items) → as_array d ≡ Some ds → d ≡ array ds
array-known null ds h = absurd (cc)
array-known (boolean b) ds h = absurd (cc)
array-known (number x) ds h = absurd (cc)
array-known (string s) ds h = absurd (cc)
array-known (array es) ds h = ap (λ (xs : Items). array xs) (same_Some es ds h)
array-known (object ms) ds h = absurd (cc)
