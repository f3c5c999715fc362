-- The flags of a path: what each is worth, and the sheet after a condition has read some of them.
use Rattle.std.specs.Prelude.{◌≡◌, ℕ, zero, suc, ◌==◌, Bool, true, false, List, [], ◌∷◌, Option, Some, None, slice_index_or, slice_set, if◌then◌else◌}
use Rattle.std.specs.List.{list_any}
use Rattle.insn_ops.specs.declared.op.Cond.{Cond}
use Rattle.insn_ops.specs.declared.op.Flags.{Flags}
use Rattle.insn_semantics.specs.Conditions.{cond_expr, cond_reads}
use Rattle.insn_semantics.specs.Exprs.{value}
use Rattle.node_values.specs.declared.node.Node.{Node}
use Rattle.node_values.specs.declared.node.NodeId.{NodeId}
use Rattle.node_values.specs.Sheets.{Extends}
use Rattle.node_values.specs.Values.{Environment}
use Rattle.terms.specs.Building.{built}
use Rattle.sym_rows.specs.declared.operands.ConditionNodes.{ConditionNodes}
use Rattle.sym_rows.specs.declared.operands.Flag.{Flag}
use Rattle.sym_rows.specs.declared.operands.Flag.TheVariants as flags
use Rattle.sym_rows.specs.declared.lazy_flags.SymFlag.{SymFlag}
use Rattle.sym_rows.specs.declared.lazy_flags.SymFlag.TheVariants.{Unset, From, Built}
use Rattle.sym_rows.specs.LazyFlags.{IsSetFlag, built_read, flag_word}
use Rattle.sym_rows.specs.Leaves.{condition_leaf}

-- the flag of this number, as conditions number them
abbrev pub numbered : ℕ → Flag
numbered zero = flags.Carry
numbered (suc zero) = flags.Parity
numbered (suc (suc zero)) = flags.Zero
numbered (suc (suc (suc zero))) = flags.Sign
numbered (suc (suc (suc (suc i)))) = flags.Overflow

-- flag i of a path
abbrev pub flag_of : List SymFlag → ℕ → SymFlag
flag_of path i = slice_index_or path i Unset

-- the flag may have any value
abbrev pub is_unset : SymFlag → Bool
is_unset Unset = true
is_unset (From op w over) = false
is_unset (Built id) = false

-- an unset flag, or one that is set
abbrev pub IsFlag : List Node → Flag → SymFlag → Type 0
IsFlag ns which f = is_unset f ≡ false → IsSetFlag ns which f

-- the five flags of a path
abbrev pub AreFlags : List Node → List SymFlag → Type 0
AreFlags ns path = (i : ℕ) → IsFlag ns (numbered i) (flag_of path i)

-- what a flag is worth in an environment, None where it may have any value
abbrev pub flag_value : Environment → List Node → Flag → SymFlag → Option Bool
flag_value e ns which f = if is_unset f then None else Some (flag_word e ns which f == 1)

-- the same of all five
abbrev pub flags_in : Environment → List Node → List SymFlag → Flags
flags_in e ns path =
    record {
      cf = flag_value e ns flags.Carry (flag_of path 0);
      pf = flag_value e ns flags.Parity (flag_of path 1);
      zf = flag_value e ns flags.Zero (flag_of path 2);
      sf = flag_value e ns flags.Sign (flag_of path 3);
      of = flag_value e ns flags.Overflow (flag_of path 4);
    }

-- some flag of these numbers is unset
abbrev pub some_unset : List SymFlag → List ℕ → Bool
some_unset path = list_any (λ i. is_unset (flag_of path i))

-- the flags that an operation's condition reads, in its order
abbrev pub flags_read_by : Option Cond → List ℕ
flags_read_by None = []
flags_read_by (Some c) = cond_reads c

-- a condition's word in an environment, from the flags' words; 0 where there is no condition
abbrev pub condition_word : Environment → List Node → List SymFlag → Option Cond → ℕ
condition_word e ns path None = 0
condition_word e ns path (Some c) = value (λ i. flag_word e ns (numbered i) (flag_of path i)) (cond_expr c)

-- a sheet, and the flags of a path
pub record WithFlags : Type 0 where
  pub nodes : List Node
  pub flags : List SymFlag

-- the sheet after these flags are read in turn; each is its node from then on
unfoldable pub flags_read : List Node → List SymFlag → List ℕ → WithFlags
flags_read ns path [] = record { nodes = ns; flags = path }
flags_read ns path (i ∷ is) =
    let read = built_read ns (numbered i) (flag_of path i) in
    flags_read read.nodes (slice_set path i (Built read.id)) is

-- a flag's node, where it is one
abbrev pub node_of_flag : SymFlag → NodeId → NodeId
node_of_flag (Built id) other = id
node_of_flag Unset other = other
node_of_flag (From op w over) other = other

-- the nodes of the flags, of those that are none the node of the first one that is read
abbrev pub condition_nodes : List SymFlag → ℕ → ConditionNodes
condition_nodes path first =
    let read = node_of_flag (flag_of path first) (record { 0 = 0 }) in
    record {
      carry = node_of_flag (flag_of path 0) read;
      parity = node_of_flag (flag_of path 1) read;
      zero = node_of_flag (flag_of path 2) read;
      sign = node_of_flag (flag_of path 3) read;
      overflow = node_of_flag (flag_of path 4) read;
    }

-- a sheet after a condition, with the flags that it has read as nodes, and the condition's node
pub record WithCondition : Type 0 where
  pub nodes : List Node
  pub flags : List SymFlag
  pub cond : Option NodeId

-- the condition over flags that are nodes
abbrev pub condition_over : Cond → WithFlags → WithCondition
condition_over c read =
    let m = built read.nodes (condition_leaf (condition_nodes read.flags (slice_index_or (cond_reads c) 0 0))) (cond_expr c) in
    record { nodes = m.nodes; flags = read.flags; cond = Some m.id }

-- the condition of an operation, where it reads one
abbrev pub condition_made : Option Cond → List SymFlag → List Node → WithCondition
condition_made None path ns = record { nodes = ns; flags = path; cond = None }
condition_made (Some c) path ns = condition_over c (flags_read ns path (cond_reads c))

-- flags in a later sheet: they are set where they were, with the same words in every environment
pub record FlagsStay (ns : List Node) (path : List SymFlag) (later : List Node) (path_later : List SymFlag) : Type 0 where
  pub extends : Extends ns later
  pub flags : AreFlags later path_later
  pub unset : (i : ℕ) → is_unset (flag_of path_later i) ≡ is_unset (flag_of path i)
  pub words : (e : Environment) (i : ℕ) → flag_word e later (numbered i) (flag_of path_later i) ≡ flag_word e ns (numbered i) (flag_of path i)
