-- The rows of the instruction table, in byte order of the mnemonics; those with VEX begin with v.
use Rattle.std.specs.Prelude.{List, ◌++◌}
use Rattle.insn_spellings.specs.Rows.{Row}
use Rattle.insn_spellings.specs.LegacyRows.{add_to_cltq, cmova_to_cmovnc, cmovne_to_cmovz, cmp_to_lea, mov_to_or, packss_to_pop, por_to_sar, set_rows, shl_to_test, xor_rows}
use Rattle.insn_spellings.specs.VexRows.{vand_to_vpbroadcast, vpcmp_to_vpmul, vpor_to_vzeroupper}

-- the rows of the mnemonics with VEX, and behind them those of xor
abbrev pub last_rows : List Row
last_rows = vand_to_vpbroadcast ++ (vpcmp_to_vpmul ++ (vpor_to_vzeroupper ++ xor_rows))

-- all rows
unfoldable pub table_rows : List Row
table_rows =
    add_to_cltq ++ (cmova_to_cmovnc ++ (cmovne_to_cmovz ++ (cmp_to_lea ++ (mov_to_or
    ++ (packss_to_pop ++ (por_to_sar ++ (set_rows ++ (shl_to_test ++ last_rows))))))))
