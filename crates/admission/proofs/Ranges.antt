-- Ranges of addresses that wrap at 2^64, and those that don't.
use Rattle.std.proofs.Common.{◌≡◌, ℕ, ◌+◌, ◌-◌, ◌^◌, ◌<◌, ◌≤◌, true, ◌&&◌, ◌||◌, eqb, leb, inl, inr, arith}
use Rattle.std.specs.Bool.{Decides}
use Rattle.std.proofs.lemmas.Bool.{and_parts, and_from, or_cases, or_left, or_right, leb-true, le-leb, eqb-true, eq-eqb, cases_lt, cases_eq}
use Rattle.memory_spans.specs.declared.region.Region.{Region}
use Rattle.memory_spans.specs.Memory.{offset_from}
use Rattle.admission.specs.Admitted.{AreApart, HasByte, IsPlaced}
use Rattle.admission.specs.Tests.{fits, is_clear, is_placed}

-- a region of 64-bit numbers
pub record IsOfWords (r : Region) : Type 0 where
  pub base : r.base < 2 ^ 64
  pub len : r.len < 2 ^ 64

pub Decides-fits : (r : Region) → IsOfWords r → Decides (fits r) (r.base + r.len ≤ 2 ^ 64)
Decides-fits r w = (
  (λ h. elim (or_cases (eqb r.len 0) (leb r.base (2 ^ 64 - 1 - (r.len - 1))) h) [
    | inl none ↦ omega (arith, w.base, eqb-true r.len 0 none)
    | inr some ↦ omega (arith, w.len, leb-true r.base (2 ^ 64 - 1 - (r.len - 1)) some)
  ]),
  λ h. elim (cases_eq r.len 0) [
    | inl none ↦ or_left (eqb r.len 0) _ (eq-eqb r.len 0 none)
    | inr some ↦ or_right (eqb r.len 0) _ (le-leb r.base (2 ^ 64 - 1 - (r.len - 1)) (omega arith))
  ],
)

-- no address is in both of two ranges
abbrev IsClear : ℕ → ℕ → ℕ → ℕ → Type 0
IsClear base len other other_len = (at : ℕ) → at < 2 ^ 64 → offset_from base at < len → offset_from other at < other_len → ⊥

clear-known : (b l o m : ℕ) → b < 2 ^ 64 → o < 2 ^ 64 → is_clear b l o m ≡ true → IsClear b l o m
clear-known b l o m low other h =
    λ at small here there.
    elim (or_cases (eqb l 0) (eqb m 0 || (leb l (offset_from b o) && leb m (offset_from o b))) h) [
      | inl none ↦ omega (arith, eqb-true l 0 none)
      | inr more ↦ elim (or_cases (eqb m 0) (leb l (offset_from b o) && leb m (offset_from o b)) more) [
        | inl none ↦ omega (arith, eqb-true m 0 none)
        | inr both ↦
            let p = and_parts (leb l (offset_from b o)) (leb m (offset_from o b)) both in
            let x : l ≤ offset_from b o = leb-true l (offset_from b o) p.0 in
            let y : m ≤ offset_from o b = leb-true m (offset_from o b) p.1 in
            omega arith
      ]
    ]

clear-only : (b l o m : ℕ) → b < 2 ^ 64 → o < 2 ^ 64 → IsClear b l o m → is_clear b l o m ≡ true
clear-only b l o m low other h =
    elim (cases_eq l 0) [
      | inl none ↦ or_left (eqb l 0) _ (eq-eqb l 0 none)
      | inr some ↦ or_right (eqb l 0) _ (elim (cases_eq m 0) [
        | inl none ↦ or_left (eqb m 0) _ (eq-eqb m 0 none)
        | inr more ↦ or_right (eqb m 0) _ (and_from (leb l (offset_from b o)) (leb m (offset_from o b))
            (elim (cases_lt (offset_from b o) l) [ inl below ↦ absurd (h o other below (omega arith)) | inr above ↦ le-leb l (offset_from b o) above ])
            (elim (cases_lt (offset_from o b) m) [ inl below ↦ absurd (h b low (omega arith) below) | inr above ↦ le-leb m (offset_from o b) above ]))
      ])
    ]

-- a byte of a region that ends at 2^64 at most lies behind its base by less than its length
byte-offset : (r : Region) (at : ℕ) → r.base + r.len ≤ 2 ^ 64 → HasByte r at → (at < 2 ^ 64) × (offset_from r.base at < r.len)
byte-offset r at whole h = (omega (arith, h.0, h.1), omega (arith, h.0, h.1))

offset-byte : (r : Region) (at : ℕ) → r.base + r.len ≤ 2 ^ 64 → at < 2 ^ 64 → offset_from r.base at < r.len → HasByte r at
offset-byte r at whole small h = (omega arith, omega arith)

-- two regions that end at 2^64 at most
pub Decides-apart : (r s : Region) → IsOfWords r → IsOfWords s → r.base + r.len ≤ 2 ^ 64 → s.base + s.len ≤ 2 ^ 64
    → Decides (is_clear r.base r.len s.base s.len) (AreApart r s)
Decides-apart r s w v whole other = (
  (λ h at here there.
      let p = byte-offset r at whole here in
      let q = byte-offset s at other there in
      clear-known r.base r.len s.base s.len w.base v.base h at p.0 p.1 q.1),
  λ h. clear-only r.base r.len s.base s.len w.base v.base (λ at small here there. h at (offset-byte r at whole small here) (offset-byte s at other small there)),
)

-- a region and the stack range
pub Decides-placed : (pointer stack : ℕ) (r : Region) → IsOfWords r → Decides (is_placed pointer stack r) (IsPlaced pointer stack r)
Decides-placed pointer stack r w =
    let start : ℕ = offset_from stack pointer in
    let small : start < 2 ^ 64 = omega arith in (
      (λ h.
          let p = and_parts (fits r) (is_clear r.base r.len start (stack + 8)) h in
          let whole = (Decides-fits r w).0 p.0 in
          record {
            fits = whole;
            clear = λ at here there. let q = byte-offset r at whole here in clear-known r.base r.len start (stack + 8) w.base small p.1 at q.0 q.1 there;
          }),
      λ h. and_from (fits r) (is_clear r.base r.len start (stack + 8)) ((Decides-fits r w).1 h.fits)
          (clear-only r.base r.len start (stack + 8) w.base small (λ at low here there. h.clear at (offset-byte r at h.fits low here) there)),
    )
