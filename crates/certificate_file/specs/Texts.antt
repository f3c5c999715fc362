-- The text of a certificate, and what a text that is none is told.
use Rattle.std.specs.Prelude.{◌≡◌, ◌⊎◌, ℕ, zero, suc, ◌<◌, ◌-◌, ◌^◌, ◌==◌, min, if◌then◌else◌, List, [], ◌∷◌, ◌++◌, length, codes, Result, Ok, Err}
use Rattle.text_parts.specs.Numbers.{IsDecimal}
use Rattle.certificate_file.specs.declared.refusal.CertRefusal.{CertRefusal}
use Rattle.certificate_file.specs.declared.refusal.CertRefusal.TheVariants.{Version, Truncated, BadLine, Memory}
use Rattle.certificate_file.specs.declared.certificate.Certificate.{Certificate}
use Rattle.product_automaton.specs.declared.product.PNode.{PNode}
use Rattle.refutations.specs.declared.tree.Tree.{Tree}
use Rattle.text_codes.specs.Lists.{EachNumbered, numbered_of}
use Rattle.certificate_file.specs.Numbers.{newline, number_text, IsU64, lines_text, AreCounted}
use Rattle.certificate_file.specs.Products.{node_text, NodeFits, edge_text, EdgeFits}
use Rattle.certificate_file.specs.Trees.{tree_text, TreeFits}

-- the nodes of a product behind their count, numbered from 0
abbrev pub nodes_text : List PNode → List ℕ
nodes_text nodes = number_text newline (length nodes) ++ numbered_of node_text 0 nodes

-- the trees of all duties behind their count, and the last line
abbrev pub trees_text : List Tree → List ℕ
trees_text trees = codes "duties " ++ (lines_text tree_text trees ++ codes "end\n")

-- the text of a certificate
abbrev pub certificate_text : Certificate → List ℕ
certificate_text c =
    codes "align-certificate 1\nnodes " ++ (nodes_text c.product.nodes
    ++ (codes "edges " ++ (lines_text edge_text c.product.edges ++ trees_text c.trees)))

-- a certificate that has a text: each part of it in its range
abbrev pub CertificateFits : Certificate → Type 0
CertificateFits c =
    (IsU64 (length c.product.nodes) × EachNumbered NodeFits 0 c.product.nodes)
    × (AreCounted EdgeFits c.product.edges × AreCounted (TreeFits 16) c.trees)

-- the front of the text of some certificate
pub record IsFront (text : List ℕ) : Type 0 where
  pub certificate : Certificate
  pub fits : CertificateFits certificate
  pub rest : List ℕ
  pub begins : certificate_text certificate ≡ text ++ rest

-- a front that is not the whole
pub record IsTruncated (text : List ℕ) : Type 0 where
  pub certificate : Certificate
  pub fits : CertificateFits certificate
  pub next : ℕ
  pub rest : List ℕ
  pub begins : certificate_text certificate ≡ text ++ next ∷ rest

-- the first lines of a text, each with its newline where it has one
abbrev pub first_lines : ℕ → List ℕ → List ℕ
first_lines zero text = []
first_lines (suc n) [] = []
first_lines (suc n) (b ∷ text) = if b == 10 then b ∷ first_lines n text else b ∷ first_lines (suc n) text

-- the first line up to whose end the text is the front of no certificate's text
pub record IsBadLine (text : List ℕ) (line : ℕ) : Type 0 where
  pub wrong : IsFront (first_lines line text) → ⊥
  pub least : (n : ℕ) → n < line → IsFront (first_lines n text)

-- the first line names another version: a number other than 1, with no sign and no leading zero, up to the end of the
-- line or of the text
pub record IsOtherVersion (text : List ℕ) : Type 0 where
  pub digits : List ℕ
  pub rest : List ℕ
  pub number : ℕ
  pub spelled : text ≡ codes "align-certificate " ++ (digits ++ rest)
  pub decimal : IsDecimal digits number
  pub other : number ≡ 1 → ⊥
  pub ends : (rest ≡ []) ⊎ ((behind : List ℕ) × (rest ≡ newline ∷ behind))

-- what a text is answered: the certificate whose text it is, or why it is none; lines above 2^32 - 1 are told as that
abbrev pub IsVerdict : List ℕ → Result Certificate CertRefusal → Type 0
IsVerdict text (Ok c) = CertificateFits c × (text ≡ certificate_text c)
IsVerdict text (Err Version) = IsOtherVersion text
IsVerdict text (Err Truncated) = (IsOtherVersion text → ⊥) × IsTruncated text
IsVerdict text (Err (BadLine told)) = (IsOtherVersion text → ⊥) × ((line : ℕ) × (IsBadLine text line × (told ≡ min line (2 ^ 32 - 1))))
IsVerdict text (Err Memory) = Unit {0}
