-- The loops over the bytes of an access that reads, and of one that writes.
use Rattle.std.proofs.Common.{◌≡◌, ℕ, zero, suc, ◌+◌, ◌<◌, ◌≤◌, List, [], ◌∷◌, ◌++◌, length, drop, get_or, refl, sym, ◌∙◌, ap, subst, arith, inl, inr, add-one, append_assoc}
use Rattle.std.specs.Prelude.{reverse}
use Rattle.std.proofs.lemmas.Bool.{cases_lt}
use Rattle.std.proofs.lemmas.List.{append-nil}
use Rattle.std.proofs.Math.Seq.{drop-cons, drop-length}
use Rattle.node_values.specs.declared.node.Node.{Node}
use Rattle.node_values.specs.declared.node.NodeId.{NodeId}
use Rattle.node_values.specs.Sheets.{Extends}
use Rattle.terms.specs.Made.{Made}
use Rattle.duty_claims.specs.declared.duty.Fixed.{Fixed}
use Rattle.address_nodes.proofs.Growing.{extends_trans, same_extends, still_longer}
use Rattle.sym_memory.specs.declared.written.Place.{Place}
use Rattle.sym_memory.specs.declared.written.Written.{Written}
use Rattle.sym_memory.specs.Writes.{PathMemory, written_bytes}
use Rattle.sym_memory.specs.Reads.{ReadBytes, byte_address, byte_read, bytes_read}
use Rattle.sym_memory.proofs.Longer.{address_extends, read_extends}

module _ (m : PathMemory) (fixed : List Fixed) (access : ℕ) (at : NodeId) (ns : List Node) where
  abbrev place_of : ℕ → Made → Place
  place_of n address = record { access = access; byte = n; address = address.id }

  abbrev read_at : ℕ → Made → Made
  read_at n address = byte_read m.side fixed (record { access = access; byte = n; address = address.id }) (reverse m.written) address.nodes

  abbrev with_byte : ReadBytes → Made → ReadBytes
  with_byte before read = record { nodes = read.nodes; bytes = before.bytes ++ read.id ∷ [] }

  pub no_bytes : bytes_read m fixed access at 0 ns ≡ record { nodes = ns; bytes = [] }
  unfolding bytes_read
  no_bytes = refl

  bytes_step : (n : ℕ) (before : ReadBytes) → bytes_read m fixed access at n ns ≡ before
      → bytes_read m fixed access at (suc n) ns ≡ with_byte before (read_at n (byte_address before.nodes at n))
  unfolding bytes_read
  bytes_step n before is = ap (λ b. with_byte b (read_at n (byte_address b.nodes at n))) is

  pub byte_more : (n : ℕ) (before : ReadBytes) (address read : Made) → bytes_read m fixed access at n ns ≡ before → byte_address before.nodes at n ≡ address
      → byte_read m.side fixed (record { access = access; byte = n; address = address.id }) (reverse m.written) address.nodes ≡ read
      → bytes_read m fixed access at (n + 1) ns ≡ record { nodes = read.nodes; bytes = before.bytes ++ read.id ∷ [] }
  byte_more n before address read is made_address made_read =
      let e : n + 1 ≡ suc n = omega arith in
      ap (λ k. bytes_read m fixed access at k ns) e ∙ bytes_step n before is
      ∙ ap (λ a. with_byte before (read_at n a)) made_address ∙ ap (with_byte before) made_read

  step_extends : (n : ℕ) → Extends (bytes_read m fixed access at n ns).nodes (bytes_read m fixed access at (suc n) ns).nodes
  step_extends n =
      let before : ReadBytes = bytes_read m fixed access at n ns in
      let address : Made = byte_address before.nodes at n in
      subst (λ b. Extends before.nodes b.nodes) (sym (bytes_step n before refl))
      (extends_trans before.nodes address.nodes (read_at n address).nodes (address_extends before.nodes at n)
      (read_extends m.side fixed (place_of n address) (reverse m.written) address.nodes))

  pub bytes_extend : (n : ℕ) → Extends ns (bytes_read m fixed access at n ns).nodes
  bytes_extend zero = subst (λ b. Extends ns b.nodes) (sym no_bytes) (same_extends ns)
  bytes_extend (suc n) = extends_trans ns (bytes_read m fixed access at n ns).nodes (bytes_read m fixed access at (suc n) ns).nodes (bytes_extend n) (step_extends n)

  more_longer : (n more : ℕ) → n ≤ more → 65536 < length (bytes_read m fixed access at n ns).nodes → 65536 < length (bytes_read m fixed access at more ns).nodes
  more_longer n zero b h = let e : n ≡ 0 = omega arith in subst (λ k. 65536 < length (bytes_read m fixed access at k ns).nodes) e h
  more_longer n (suc more) b h = elim (cases_lt more n) [
    | inl end ↦ let e : n ≡ suc more = omega arith in subst (λ k. 65536 < length (bytes_read m fixed access at k ns).nodes) e h
    | inr before ↦
        still_longer (bytes_read m fixed access at more ns).nodes (bytes_read m fixed access at (suc more) ns).nodes (step_extends more)
        (more_longer n more before h)
  ]

  -- an address, or a byte, that is too long makes the read too long
  pub address_too_long : (n bytes : ℕ) (before : ReadBytes) → n < bytes → bytes_read m fixed access at n ns ≡ before
      → 65536 < length (byte_address before.nodes at n).nodes → 65536 < length (bytes_read m fixed access at bytes ns).nodes
  address_too_long n bytes before b is h =
      let address : Made = byte_address before.nodes at n in
      more_longer (suc n) bytes (omega arith)
      (subst (λ r. 65536 < length r.nodes) (sym (bytes_step n before is))
      (still_longer address.nodes (read_at n address).nodes (read_extends m.side fixed (place_of n address) (reverse m.written) address.nodes) h))

  pub byte_too_long : (n bytes : ℕ) (before : ReadBytes) (address : Made) → n < bytes → bytes_read m fixed access at n ns ≡ before → byte_address before.nodes at n ≡ address
      → 65536 < length (byte_read m.side fixed (record { access = access; byte = n; address = address.id }) (reverse m.written) address.nodes).nodes
      → 65536 < length (bytes_read m fixed access at bytes ns).nodes
  byte_too_long n bytes before address b is made_address h =
      more_longer (suc n) bytes (omega arith)
      (subst (λ r. 65536 < length r.nodes) (sym (bytes_step n before is ∙ ap (λ a. with_byte before (read_at n a)) made_address)) h)

-- one written byte more
pub written_more : (access : ℕ) (at : NodeId) (values : List NodeId) (done : List Written) (i : ℕ) (d : NodeId) → i < length values
    → done ++ written_bytes access at i (drop i values) ≡ written_bytes access at 0 values
    → (done ++ record { access = access; at = at; byte = i; value = get_or values i d } ∷ []) ++ written_bytes access at (i + 1) (drop (i + 1) values) ≡ written_bytes access at 0 values
written_more access at values done i d b is =
    let here : drop i values ≡ get_or values i d ∷ drop (i + 1) values = rw add-one (drop-cons values i d b) in
    append_assoc done (record { access = access; at = at; byte = i; value = get_or values i d } ∷ []) (written_bytes access at (i + 1) (drop (i + 1) values))
    ∙ ap (λ vs. done ++ written_bytes access at i vs) (sym here) ∙ is

pub written_end : (access : ℕ) (at : NodeId) (values : List NodeId) (done : List Written) (i : ℕ) → i ≡ length values
    → done ++ written_bytes access at i (drop i values) ≡ written_bytes access at 0 values → done ≡ written_bytes access at 0 values
written_end access at values done i end is =
    let none : drop i values ≡ [] = ap (λ k. drop k values) end ∙ drop-length values in
    sym (append-nil done) ∙ ap (λ vs. done ++ written_bytes access at i vs) (sym none) ∙ is
