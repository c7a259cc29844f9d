-- Where a table is there, fewer than all numbers are given.
use Rattle.std.proofs.Common.{ℕ, suc, ◌+◌, ◌-◌, ◌<◌, ◌≤◌, ◌^◌, Bool, true, false, cond, eqb, List, [], ◌∷◌, length, arith}
use Rattle.redo_model.specs.Records.{Record, Table, Begin, Reuse, Insert}
use Rattle.redo_model.specs.Model.{txn_count, row_count, table_count, undo_sequence, IsTable}

most_one : (b : Bool) (n : ℕ) → cond b (suc n) n ≤ suc n
most_one true n = omega arith
most_one false n = omega arith

counts : (R : List Record) (u : ℕ) → table_count R + (txn_count R + (row_count R + undo_sequence R u)) ≤ length R
counts [] u = omega arith
counts (Table t ∷ R) u = let l = counts R u in omega (arith, l)
counts (Begin g ∷ R) u = let l = counts R u in omega (arith, l)
counts (Insert w ∷ R) u = let l = counts R u in omega (arith, l)
counts (Reuse q ∷ R) u = let l = counts R u in let m = most_one (eqb q.block u) (undo_sequence R u) in omega (arith, l, m)
counts (_ ∷ R) u = let l = counts R u in omega (arith, l)

pub record Fewer (R : List Record) : Type 0 where
  pub txns : txn_count R < 2 ^ 64 - 1
  pub rows : row_count R < 2 ^ 64 - 1
  pub uses : (u : ℕ) → undo_sequence R u < 2 ^ 64 - 1

pub fewer : (R : List Record) (o : ℕ) → IsTable R o → length R < 2 ^ 64 → Fewer R
fewer R o t l =
    let a = t.least in
    let b = t.most in
    record {
      txns = (let c = counts R 0 in omega (arith, a, b, c, l));
      rows = (let c = counts R 0 in omega (arith, a, b, c, l));
      uses = λ u. let c = counts R u in omega (arith, a, b, c, l);
    }
