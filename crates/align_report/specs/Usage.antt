-- The usage.
use Rattle.std.specs.Prelude.{ℕ, List, ◌++◌, codes}

-- how the program is used
unfoldable pub usage_text : List ℕ
usage_text =
    codes "usage: align decide LEFT F RIGHT G [ADMIT TESTS]\n" ++ codes "       align check LEFT F RIGHT G ADMIT CERT\n"
    ++ codes "       align run FILE F ADMIT TESTS\n" ++ codes "       align show FILE F\n" ++ codes "       align sample N\n"
