-- Numbers are ordinals: a commit number (SCN) counts Commit and Move records, a row number Insert records, a transaction
-- number Begin records, a lowering Lower records. Oracle Database Concepts, "System Change Numbers"; that they are
-- ordinals is this engine's own.
use Rattle.std.specs.Prelude.{ℕ, suc, Bool, true, false, cond, List, [], ◌∷◌}
use Rattle.redo_model.specs.Records.{Record, Lower, Begin, Insert, Commit, Move}

abbrev pub is_commit : Record → Bool
is_commit (Commit c) = true
is_commit (Move m) = true
is_commit _ = false

abbrev pub is_insert : Record → Bool
is_insert (Insert w) = true
is_insert _ = false

abbrev pub is_begin : Record → Bool
is_begin (Begin g) = true
is_begin _ = false

abbrev pub is_lower : Record → Bool
is_lower (Lower l) = true
is_lower _ = false

-- how many records of a kind there are
abbrev pub count_of : (Record → Bool) → List Record → ℕ
count_of p [] = 0
count_of p (r ∷ R) = cond (p r) (suc (count_of p R)) (count_of p R)

abbrev pub commit_count : List Record → ℕ
commit_count R = count_of is_commit R

abbrev pub row_count : List Record → ℕ
row_count R = count_of is_insert R

abbrev pub txn_count : List Record → ℕ
txn_count R = count_of is_begin R

abbrev pub lowering_count : List Record → ℕ
lowering_count R = count_of is_lower R

-- the commits, newest first
abbrev pub commits_of : List Record → List Record
commits_of [] = []
commits_of (r ∷ R) = cond (is_commit r) (r ∷ commits_of R) (commits_of R)
