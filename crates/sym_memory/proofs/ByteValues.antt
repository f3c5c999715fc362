-- A byte that is read has the value of the newest byte that was written at its address, else of the start.
use Rattle.std.proofs.Common.{◌≡◌, ℕ, zero, suc, ◌+◌, ◌%◌, ◌^◌, ◌<◌, ◌==◌, List, [], ◌∷◌, ◌++◌, Option, Some, None, Bool, true, false, ◌&&◌, length, get_or, refl, sym, ◌∙◌, ap, subst, arith, inl, inr, if◌then◌else◌, length-append}
use Rattle.std.specs.Prelude.{is_some, reverse, unwrap_or}
use Rattle.std.specs.List.{AllByRecursion}
use Rattle.std.proofs.lemmas.Bool.{cases_Bool, cases_lt, eqb-true}
use Rattle.std.proofs.lemmas.List.{reverse-append}
use Rattle.std.proofs.Math.Nat.{mod-eq_of_lt}
use Rattle.std.proofs.Math.ListN.{get_or-append}
use Rattle.std.proofs.Math.Seq.{get_or-append_seam}
use Rattle.insn_ops.specs.declared.side.Side.{Side}
use Rattle.insn_semantics.specs.Words as words
use Rattle.node_values.specs.declared.node.Node.{Node}
use Rattle.node_values.specs.declared.node.Node.TheVariants.{Const, Start, Add, If}
use Rattle.node_values.specs.declared.node.NodeId.{NodeId}
use Rattle.node_values.specs.Sheets.{Extends, IsSheet, node_at, value_at, width_at}
use Rattle.node_values.specs.Values.{Environment}
use Rattle.node_values.proofs.SheetLaws.{value_at-below}
use Rattle.node_forms.specs.Linearity.{constant_of}
use Rattle.node_forms.proofs.ValueLaws.{constant_at}
use Rattle.terms.specs.Made.{Made, made}
use Rattle.terms.specs.Rules.{is_number}
use Rattle.terms.proofs.MadeLaws.{IsBuilt, made_built}
use Rattle.duty_claims.specs.declared.duty.Fixed.{Fixed}
use Rattle.duty_claims.specs.declared.duty.Relation.{Relation}
use Rattle.address_nodes.specs.Multiples.{IsAddress, IsBuiltWord, IsOfWidth}
use Rattle.address_nodes.specs.Differences.{equality}
use Rattle.address_nodes.proofs.Growing.{extends_trans, later_value, same_extends, stays}
use Rattle.address_nodes.proofs.DifferenceNodes.{equality_word}
use Rattle.address_nodes.proofs.TermSums.{finish}
use Rattle.sym_memory.specs.declared.written.Place.{Place}
use Rattle.sym_memory.specs.declared.written.Written.{Written}
use Rattle.sym_memory.specs.Writes.{AreWritten, PathMemory, is_same_byte, relation_of}
use Rattle.sym_memory.specs.Reads.{ReadBytes, byte_address, byte_read, bytes_read, probed, test, test_by}
use Rattle.sym_memory.proofs.Testing.{written_stay}
use Rattle.sym_memory.specs.Bytes.{HoldFor, Tells, TellsByte, address_of_byte, memory_byte, newest_byte, written_address}

-- the byte of the start in an environment
abbrev pub start_byte : Environment → Side → ℕ → ℕ
start_byte e side x = e.memory side x % 2 ^ 8

-- the address of a byte of an access
pub address_word : (ns : List Node) (at : NodeId) (b : ℕ) → IsSheet ns → IsAddress ns at → b < 2 ^ 64
    → IsBuiltWord ns 64 (λ e. address_of_byte (value_at e ns at.0) b) (byte_address ns at b)
unfolding byte_address
address_word ns at b sheet node below = elim (cases_Bool (b == 0)) [
  | inl t ↦
      let none : b ≡ 0 = eqb-true b 0 t in
      rw t
      (record {
        extends = same_extends ns;
        sheet = sheet;
        inside = node.0;
        width = node.1;
        value = λ e.
            let word : value_at e ns at.0 < 2 ^ 64 = subst (λ n. value_at e ns at.0 < 2 ^ n) node.1 (value_at-below ns sheet e at.0 node.0) in
            sym (ap (λ n. n % 2 ^ 64) (plain (value_at e ns at.0) b none) ∙ mod-eq_of_lt word);
      })
  | inr f ↦
      let number : Made = made ns (Const 64 b) in
      let k : IsBuiltWord ns 64 (λ e. b) (made ns (Const 64 b)) =
      finish ns ns (Const 64 b) 64 (λ e. b) (same_extends ns) sheet (omega arith, omega arith, below) refl (λ e. refl) in
      let kept : IsAddress number.nodes at = stays ns sheet number.nodes k.extends 64 at node in
      rw f
      (finish ns number.nodes (Add at number.id) 64 (λ e. address_of_byte (value_at e ns at.0) b) k.extends k.sheet
      (kept.0, k.inside, kept.1 ∙ sym k.width) kept.1
      (λ e. λ i. words.plus (kept.1 i) (later_value ns sheet number.nodes k.extends e at.0 node.0 i) (k.value e i)))
]
  where
    plain : (v b : ℕ) → b ≡ 0 → v + b ≡ v
    plain v b h = omega arith

-- a node of a later sheet, with a value where the fixed relations hold
pub record IsByteNode (ns : List Node) (w : ℕ) (Holds : Environment → Type 0) (V : Environment → ℕ) (m : Made) : Type 0 where
  pub extends : Extends ns m.nodes
  pub sheet : IsSheet m.nodes
  pub inside : m.id.0 < length m.nodes
  pub width : width_at m.nodes m.id.0 ≡ w
  pub value : (e : Environment) → Holds e → value_at e m.nodes m.id.0 ≡ V e

bit_word : (t : Bool) → words.bit t < 2 ^ 1
bit_word true = omega arith
bit_word false = omega arith

-- the constant that a node is
number_is : (ns : List Node) → IsSheet ns → (e : Environment) (v i : ℕ) → i < length ns → is_number ns v i ≡ true → value_at e ns i ≡ v
number_is ns sheet e v i b h = by_constant (constant_of (node_at ns i)) refl
  where
    by_constant : (told : Option ℕ) → constant_of (node_at ns i) ≡ told → value_at e ns i ≡ v
    by_constant None is = absurd (never ((λ j. is_some (sym is j) && (unwrap_or (sym is j) 0 == v)) ∙ h))
      where
        never : false ≡ true → ⊥
        never x = cc
    by_constant (Some u) is =
        let same : (u == v) ≡ true = (λ j. is_some (sym is j) && (unwrap_or (sym is j) 0 == v)) ∙ h in
        constant_at e ns sheet i u b is ∙ eqb-true u v same

-- the sheet at which the read begins
module _ (start : List Node) (sheet : IsSheet start) (side : Side) (fixed : List Fixed) (place : Place) (address : IsAddress start place.address) where
  abbrev x : Environment → ℕ
  x e = value_at e start place.address.0

  abbrev TestTells : Written → Environment → Type 0
  TestTells w e = Tells (value_at e start) place.byte (value_at e start place.address.0) w (relation_of fixed w.access place.access)

  abbrev is_there : Written → Environment → ℕ
  is_there w e = words.bit (value_at e start place.address.0 == written_address (value_at e start) w)

  -- a test is whether the written byte lies at the address
  test_word : (w : Written) (ns : List Node) → Extends start ns → IsSheet ns → IsAddress start w.at → w.byte < 2 ^ 32
      → IsByteNode ns 1 (TestTells w) (is_there w) (test fixed place w ns)
  unfolding test
  test_word w ns ext now at below = by_relation (relation_of fixed w.access place.access)
    where
      by_relation : (relation : Option Relation) → IsByteNode ns 1 (λ e. Tells (value_at e start) place.byte (value_at e start place.address.0) w relation) (is_there w) (test_by place w ns relation)
      by_relation None =
          let there : IsAddress ns w.at = stays start sheet ns ext 64 w.at at in
          let a : Made = byte_address ns w.at w.byte in
          let b : IsBuiltWord ns 64 (λ e. address_of_byte (value_at e ns w.at.0) w.byte) (byte_address ns w.at w.byte) = address_word ns w.at w.byte now there (omega arith) in
          let to : Extends start a.nodes = extends_trans start ns a.nodes ext b.extends in
          let t : IsBuiltWord a.nodes 1 (λ e. words.equal (value_at e a.nodes place.address.0) (value_at e a.nodes a.id.0)) (equality a.nodes place.address a.id) =
          equality_word a.nodes b.sheet place.address a.id (stays start sheet a.nodes to 64 place.address address) (b.inside, b.width) in
          record {
            extends = extends_trans ns a.nodes (equality a.nodes place.address a.id).nodes b.extends t.extends;
            sheet = t.sheet;
            inside = t.inside;
            width = t.width;
            value = λ e h. t.value e
                ∙ (λ i. words.equal (later_value start sheet a.nodes to e place.address.0 address.0 i)
                ((b.value e ∙ ap (λ v. address_of_byte v w.byte) (later_value start sheet ns ext e w.at.0 at.0)) i));
          }
      by_relation (Some relation) =
          let k : IsBuiltWord ns 1 (λ e. words.bit (is_same_byte relation place.byte w.byte)) (made ns (Const 1 (words.bit (is_same_byte relation place.byte w.byte)))) =
          finish ns ns (Const 1 (words.bit (is_same_byte relation place.byte w.byte))) 1 (λ e. words.bit (is_same_byte relation place.byte w.byte)) (same_extends ns) now
          (omega arith, omega arith, bit_word (is_same_byte relation place.byte w.byte)) refl (λ e. refl) in
          record { extends = k.extends; sheet = k.sheet; inside = k.inside; width = k.width; value = λ e h. k.value e ∙ ap words.bit h }

  abbrev ReadTells : List Written → Environment → Type 0
  ReadTells ws e = TellsByte (value_at e start) fixed place.access ws place.byte (value_at e start place.address.0)

  abbrev read_value : List Written → Environment → ℕ
  read_value ws e = newest_byte (value_at e start) (λ y. e.memory side y % 2 ^ 8) ws (value_at e start place.address.0)

  chosen : (c : Bool) (a b : ℕ) → words.choice (words.bit c) a b ≡ (if c then a else b)
  chosen true a b = refl
  chosen false a b = refl

  is_one : (c : Bool) → words.bit c ≡ 1 → c ≡ true
  is_one true h = refl
  is_one false h = absurd (omega (arith, h))

  read_word : (ws : List Written) (ns : List Node) → Extends start ns → IsSheet ns → AreWritten start ws
      → IsByteNode ns 8 (ReadTells ws) (read_value ws) (byte_read side fixed place ws ns)
  unfolding byte_read
  read_word [] ns ext now h =
      let there : IsAddress ns place.address = stays start sheet ns ext 64 place.address address in
      let b : IsBuiltWord ns 8 (λ e. e.memory side (value_at e start place.address.0) % 2 ^ 8) (made ns (Start side place.address)) =
      finish ns ns (Start side place.address) 8 (λ e. e.memory side (value_at e start place.address.0) % 2 ^ 8) (same_extends ns) now there refl
      (λ e. ap (λ v. e.memory side v % 2 ^ 8) (later_value start sheet ns ext e place.address.0 address.0)) in
      record { extends = b.extends; sheet = b.sheet; inside = b.inside; width = b.width; value = λ e k. b.value e }
  read_word (w ∷ older) ns ext now h =
      let t : Made = test fixed place w ns in
      let T : IsByteNode ns 1 (TestTells w) (is_there w) (test fixed place w ns) = test_word w ns ext now h.0.0 h.0.2 in
      let to : Extends start t.nodes = extends_trans start ns t.nodes ext T.extends in
      let rest : Made = byte_read side fixed place older t.nodes in
      let R : IsByteNode t.nodes 8 (ReadTells older) (read_value older) (byte_read side fixed place older t.nodes) = read_word older t.nodes to T.sheet h.1 in
      elim (cases_Bool (is_number t.nodes 1 t.id.0)) [
        | inl one ↦
            let value : IsOfWidth t.nodes 8 w.value = stays start sheet t.nodes to 8 w.value h.0.1 in
            rw one
            (record {
              extends = T.extends;
              sheet = T.sheet;
              inside = value.0;
              width = value.1;
              value = λ e k.
                  let there = is_one (value_at e start place.address.0 == written_address (value_at e start) w) (sym (T.value e k.0) ∙ number_is t.nodes T.sheet e 1 t.id.0 T.inside one) in
                  later_value start sheet t.nodes to e w.value.0 h.0.1.0
                  ∙ sym (ap (λ c. if c then value_at e start w.value.0 else newest_byte (value_at e start) (λ y. e.memory side y % 2 ^ 8) older (value_at e start place.address.0)) there);
            })
        | inr other ↦
            let far : Extends start rest.nodes = extends_trans start t.nodes rest.nodes to R.extends in
            let value : IsOfWidth rest.nodes 8 w.value = stays start sheet rest.nodes far 8 w.value h.0.1 in
            let testing : IsOfWidth rest.nodes 1 t.id = stays t.nodes T.sheet rest.nodes R.extends 1 t.id (T.inside, T.width) in
            let m : IsBuilt rest.nodes (If t.id w.value rest.id) (made rest.nodes (If t.id w.value rest.id)) =
            made_built rest.nodes R.sheet (If t.id w.value rest.id) (testing.0, testing.1, (value.0, R.inside, value.1 ∙ sym R.width)) in
            rw other
            (record {
              extends = extends_trans ns t.nodes (made rest.nodes (If t.id w.value rest.id)).nodes T.extends
                  (extends_trans t.nodes rest.nodes (made rest.nodes (If t.id w.value rest.id)).nodes R.extends m.extends);
              sheet = m.sheet;
              inside = m.inside;
              width = m.width ∙ value.1;
              value = λ e k.
                  m.value e
                  ∙ (λ i. words.choice ((later_value t.nodes T.sheet rest.nodes R.extends e t.id.0 T.inside ∙ T.value e k.0) i)
                  (later_value start sheet rest.nodes far e w.value.0 h.0.1.0 i) (R.value e k.1 i))
                  ∙ chosen (value_at e start place.address.0 == written_address (value_at e start) w) (value_at e start w.value.0)
                  (newest_byte (value_at e start) (λ y. e.memory side y % 2 ^ 8) older (value_at e start place.address.0));
            })
      ]

  -- the byte that is read over the sheet at which the read begins
  pub byte_word : (ws : List Written) → AreWritten start ws → IsByteNode start 8 (ReadTells ws) (read_value ws) (byte_read side fixed place ws start)
  byte_word ws h = read_word ws start (same_extends start) sheet h

-- what holds of each of a list holds of each where it is turned
pub all_turned : (P : Written → Type 0) (ws : List Written) → AllByRecursion P ws → AllByRecursion P (reverse ws)
all_turned P [] h = tt
all_turned P (w ∷ ws) h =
    subst (AllByRecursion P) (sym (reverse-append (w ∷ []) ws)) (joined (reverse ws) (all_turned P ws h.1) h.0)
  where
    joined : (ys : List Written) → AllByRecursion P ys → P w → AllByRecursion P (ys ++ w ∷ [])
    joined [] k p = (p, tt)
    joined (y ∷ ys) k p = (k.0, joined ys k.1 p)

-- no relation is fixed
pub nothing_fixed : (values : ℕ → ℕ) (access b y : ℕ) (ws : List Written) → TellsByte values [] access ws b y
nothing_fixed values access b y [] = tt
nothing_fixed values access b y (w ∷ ws) = (tt, nothing_fixed values access b y ws)

-- the byte at an address that is of no access
pub probed_word : (m : PathMemory) (at : NodeId) (ns : List Node) → IsSheet ns → IsAddress ns at → AreWritten ns m.written
    → IsByteNode ns 8 (λ e. Unit {0}) (λ e. memory_byte e ns m (value_at e ns at.0)) (probed m at ns)
probed_word m at ns sheet node written =
    let b = byte_word ns sheet m.side [] (record { access = 0; byte = 0; address = at }) node (reverse m.written)
    (all_turned (λ w. IsAddress ns w.at × IsOfWidth ns 8 w.value × (w.byte < 2 ^ 32)) m.written written) in
    record {
      extends = b.extends;
      sheet = b.sheet;
      inside = b.inside;
      width = b.width;
      value = λ e h. b.value e (nothing_fixed (value_at e ns) 0 0 (value_at e ns at.0) (reverse m.written));
    }

-- written bytes in a later sheet
module _ (ns : List Node) (sheet : IsSheet ns) (mid : List Node) (ext : Extends ns mid) (e : Environment) where
  address_stays : (w : Written) → IsAddress ns w.at → written_address (value_at e mid) w ≡ written_address (value_at e ns) w
  address_stays w h = ap (λ v. address_of_byte v w.byte) (later_value ns sheet mid ext e w.at.0 h.0)

  newest_stays : (start : ℕ → ℕ) (ws : List Written) (y : ℕ) → AreWritten ns ws → newest_byte (value_at e mid) start ws y ≡ newest_byte (value_at e ns) start ws y
  newest_stays start [] y h = refl
  newest_stays start (w ∷ older) y h =
      λ i. if y == address_stays w h.0.0 i then later_value ns sheet mid ext e w.value.0 h.0.1.0 i else newest_stays start older y h.1 i

  tells_stay : (b y : ℕ) (w : Written) (relation : Option Relation) → IsAddress ns w.at → Tells (value_at e ns) b y w relation → Tells (value_at e mid) b y w relation
  tells_stay b y w None h k = tt
  tells_stay b y w (Some relation) h k = k ∙ ap (λ a. y == a) (sym (address_stays w h))

  byte_tells_stay : (fixed : List Fixed) (access b y : ℕ) (ws : List Written) → AreWritten ns ws → TellsByte (value_at e ns) fixed access ws b y → TellsByte (value_at e mid) fixed access ws b y
  byte_tells_stay fixed access b y [] h k = tt
  byte_tells_stay fixed access b y (w ∷ ws) h k =
      (tells_stay b y w (relation_of fixed w.access access) h.0.0 k.0, byte_tells_stay fixed access b y ws h.1 k.1)

-- the bytes of an access that were read
pub record AreReadBytes (ns : List Node) (m : PathMemory) (fixed : List Fixed) (access : ℕ) (at : NodeId) (n : ℕ) (r : ReadBytes) : Type 0 where
  pub extends : Extends ns r.nodes
  pub sheet : IsSheet r.nodes
  pub count : length r.bytes ≡ n
  pub widths : (b : ℕ) → b < n → IsOfWidth r.nodes 8 (get_or r.bytes b at)
  pub value : (e : Environment) → HoldFor (value_at e ns) fixed access m (value_at e ns at.0) n → (b : ℕ) → b < n
      → value_at e r.nodes (get_or r.bytes b at).0 ≡ memory_byte e ns m (address_of_byte (value_at e ns at.0) b)

module _ (m : PathMemory) (fixed : List Fixed) (access : ℕ) (at : NodeId) (ns : List Node) (sheet : IsSheet ns) (node : IsAddress ns at) (written : AreWritten ns m.written) where
  turned : AreWritten ns (reverse m.written)
  turned = all_turned (λ w. IsAddress ns w.at × IsOfWidth ns 8 w.value × (w.byte < 2 ^ 32)) m.written written

  pub bytes_words : (n : ℕ) → n < 2 ^ 64 → AreReadBytes ns m fixed access at n (bytes_read m fixed access at n ns)
  unfolding bytes_read
  bytes_words zero below = record {
    extends = same_extends ns;
    sheet = sheet;
    count = refl;
    widths = λ b h. absurd (omega arith);
    value = λ e h b k. absurd (omega arith);
  }
  bytes_words (suc n) below =
      let before : ReadBytes = bytes_read m fixed access at n ns in
      let B : AreReadBytes ns m fixed access at n (bytes_read m fixed access at n ns) = bytes_words n (omega arith) in
      let a : Made = byte_address before.nodes at n in
      let there : IsAddress before.nodes at = stays ns sheet before.nodes B.extends 64 at node in
      let A : IsBuiltWord before.nodes 64 (λ e. address_of_byte (value_at e before.nodes at.0) n) (byte_address before.nodes at n) =
      address_word before.nodes at n B.sheet there (omega arith) in
      let to : Extends ns a.nodes = extends_trans ns before.nodes a.nodes B.extends A.extends in
      let place : Place = record { access = access; byte = n; address = a.id } in
      let r : Made = byte_read m.side fixed (record { access = access; byte = n; address = a.id }) (reverse m.written) a.nodes in
      let R = byte_word a.nodes A.sheet m.side fixed (record { access = access; byte = n; address = a.id }) (A.inside, A.width) (reverse m.written)
      (written_stay ns sheet a.nodes to (reverse m.written) turned) in
      let old : Extends before.nodes r.nodes = extends_trans before.nodes a.nodes r.nodes A.extends R.extends in
      let byte : (b : ℕ) → b < n → get_or (before.bytes ++ r.id ∷ []) b at ≡ get_or before.bytes b at =
      λ b h. get_or-append before.bytes (r.id ∷ []) at b (omega (arith, B.count, h)) in
      let last : get_or (before.bytes ++ r.id ∷ []) n at ≡ r.id =
      ap (λ k. get_or (before.bytes ++ r.id ∷ []) k at) (sym B.count) ∙ get_or-append_seam before.bytes r.id [] at in
      record {
        extends = extends_trans ns a.nodes r.nodes to R.extends;
        sheet = R.sheet;
        count = omega (arith, length-append before.bytes (r.id ∷ []), B.count);
        widths = λ b h. elim (cases_lt b n) [
          | inl lower ↦ subst (IsOfWidth r.nodes 8) (sym (byte b lower)) (stays before.nodes B.sheet r.nodes old 8 (get_or before.bytes b at) (B.widths b lower))
          | inr upper ↦
              let same : n ≡ b = omega arith in
              subst (λ k. IsOfWidth r.nodes 8 (get_or (before.bytes ++ r.id ∷ []) k at)) same (subst (IsOfWidth r.nodes 8) (sym last) (R.inside, R.width))
        ];
        value = λ e h b k. elim (cases_lt b n) [
          | inl lower ↦
              ap (λ (d : NodeId). value_at e r.nodes d.0) (byte b lower)
              ∙ later_value before.nodes B.sheet r.nodes old e (get_or before.bytes b at).0 (B.widths b lower).0
              ∙ B.value e (λ d l. h d (omega arith)) b lower
          | inr upper ↦
              let same : n ≡ b = omega arith in
              let y : value_at e a.nodes a.id.0 ≡ address_of_byte (value_at e ns at.0) n =
              A.value e ∙ ap (λ v. address_of_byte v n) (later_value ns sheet before.nodes B.extends e at.0 node.0) in
              let tells : TellsByte (value_at e a.nodes) fixed access (reverse m.written) n (value_at e a.nodes a.id.0) =
              subst (TellsByte (value_at e a.nodes) fixed access (reverse m.written) n) (sym y)
              (byte_tells_stay ns sheet a.nodes to e fixed access n (address_of_byte (value_at e ns at.0) n) (reverse m.written) turned (h n (omega arith))) in
              subst (λ q. value_at e r.nodes (get_or (before.bytes ++ r.id ∷ []) q at).0 ≡ memory_byte e ns m (address_of_byte (value_at e ns at.0) q)) same
              (ap (λ (d : NodeId). value_at e r.nodes d.0) last ∙ R.value e tells
              ∙ ap (newest_byte (value_at e a.nodes) (λ z. e.memory m.side z % 2 ^ 8) (reverse m.written)) y
              ∙ newest_stays ns sheet a.nodes to e (λ z. e.memory m.side z % 2 ^ 8) (reverse m.written) (address_of_byte (value_at e ns at.0) n) turned)
        ];
      }
