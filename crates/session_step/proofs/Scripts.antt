-- The statement at a place of a script.
use Rattle.std.proofs.Common.{◌≡◌, ℕ, zero, suc, ◌≤◌, ◌<◌, List, [], ◌∷◌, length, get_or, Some, None, refl, sym, ap, arith}
use Rattle.std.specs.Prelude.{slice_get}
use Rattle.script_text.specs.declared.statement.Statement.{Statement}

pub got_some : (xs : List Statement) (i : ℕ) (st : Statement) → i < length xs → st ≡ get_or xs i st → slice_get xs i ≡ Some st
got_some [] i st l e = absurd (omega (arith, l))
got_some (x ∷ xs) zero st l e = ap (λ (z : Statement). Some z) (sym e)
got_some (x ∷ xs) (suc i) st l e = got_some xs i st (omega (arith, l)) e

pub got_none : (xs : List Statement) (i : ℕ) → length xs ≤ i → slice_get xs i ≡ None
got_none [] i l = refl
got_none (x ∷ xs) zero l = absurd (omega (arith, l))
got_none (x ∷ xs) (suc i) l = got_none xs i (omega (arith, l))
