-- The forms of the records that begin and end transactions, and what goes with them.
use Rattle.std.proofs.Common.{ℕ, ◌^◌, ◌<◌, List, ◌∷◌, length, refl, ap, arith, flat_map}
use Rattle.seg_words.proofs.Lemmas.{AllByRecursion}
use Rattle.redo_record.specs.Types.{begin, reuse, commit, ended, ended_transaction, clean, IsBegin, IsReuse, IsCommit, IsEnded, IsClean, begin_of, begin_at, reuse_of, reuse_at, commit_of, commit_at, ended_of, ended_at, ended_transaction_at, ended_transactions_at, second, clean_of, clean_at}
use Rattle.redo_record.proofs.Laws.{Spells, byte_spells, spells32, spells64, both_spell, made_spell, many_spell}

pub begin_spells : Spells begin_at begin IsBegin
unfolding begin_at
begin_spells = made_spell begin_of (λ b. (b.txn, (b.session, (b.entry, b.control)))) IsBegin
    (both_spell spells64 (λ _. both_spell byte_spells (λ _. both_spell byte_spells (λ _. spells64))))
    (λ v h. refl) (λ v h. record { txn = h.0; session = h.1.0; entry = h.1.1.0; control = h.1.1.1 }) (λ b h. refl) (λ b h. (h.txn, (h.session, (h.entry, h.control))))

pub reuse_spells : Spells reuse_at reuse IsReuse
unfolding reuse_at
reuse_spells = made_spell reuse_of (λ r. (r.block, r.sequence)) IsReuse (both_spell spells32 (λ _. spells64))
    (λ v h. refl) (λ v h. record { block = h.0; sequence = h.1 }) (λ r h. refl) (λ r h. (h.block, h.sequence))

pub commit_spells : Spells commit_at commit IsCommit
unfolding commit_at
commit_spells = made_spell commit_of (λ c. (c.txn, (c.number, c.entry))) IsCommit (both_spell spells64 (λ _. both_spell spells64 (λ _. byte_spells)))
    (λ v h. refl) (λ v h. record { txn = h.0; number = h.1.0; entry = h.1.1 }) (λ c h. refl) (λ c h. (h.txn, (h.number, h.entry)))

pub ended_spells : Spells ended_at ended IsEnded
unfolding ended_at
ended_spells = made_spell ended_of (λ e. (e.txn, e.entry)) IsEnded (both_spell spells64 (λ _. byte_spells))
    (λ v h. refl) (λ v h. record { txn = h.0; entry = h.1 }) (λ e h. refl) (λ e h. (h.txn, h.entry))

abbrev IsEndedTransaction : ℕ × ℕ → Type 0
IsEndedTransaction t = (t.0 < 2 ^ 64) × (t.1 < 2 ^ 64)

ended_transaction_spells : Spells ended_transaction_at ended_transaction IsEndedTransaction
unfolding ended_transaction_at
ended_transaction_spells = both_spell spells64 (λ _. spells64)

pub record AreEnded (ts : List (ℕ × ℕ)) : Type 0 where
  pub count : length ts < 2 ^ 8
  pub each : AllByRecursion IsEndedTransaction ts

abbrev ended_transactions : List (ℕ × ℕ) → List ℕ
ended_transactions ts = length ts ∷ flat_map ended_transaction ts

ended_transactions_spell : Spells ended_transactions_at ended_transactions AreEnded
unfolding ended_transactions_at
ended_transactions_spell = made_spell second (λ ts. (length ts, ts)) AreEnded (both_spell byte_spells (λ n. many_spell ended_transaction_spells n))
    (λ v h. ap (λ (n : ℕ). (n, v.1)) h.1.0) (λ v h. record { count = omega (arith, h.0, h.1.0); each = h.1.1 }) (λ ts h. refl) (λ ts h. (h.count, (refl, h.each)))

pub clean_spells : Spells clean_at clean IsClean
unfolding clean_at
clean_spells = made_spell clean_of (λ c. (c.dba, c.ended)) IsClean (both_spell spells32 (λ _. ended_transactions_spell))
    (λ v h. refl) (λ v h. record { dba = h.0; count = h.1.count; each = h.1.each }) (λ c h. refl) (λ c h. (h.dba, record { count = h.count; each = h.each }))
