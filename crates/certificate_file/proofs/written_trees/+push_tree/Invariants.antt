use Rattle.std.proofs.Common.{◌≡◌, ◌++◌, drop}
use Rattle.text_codes.specs.Lists.{texts_of}
use Rattle.certificate_file.specs.Trees.{tree_text}
use Rattle.certificate_file.proofs.written_trees.+push_tree.Given as goal

-- what is out and what is left to write is all that is to be out
abbrev pub invariant-loop-kid : goal.invariant-loop-kid
invariant-loop-kid l = l.out.items ++ texts_of tree_text (drop l.kid-index l.kid-items) ≡ l.fn.out.items ++ tree_text l.fn.tree
