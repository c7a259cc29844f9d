-- The end of a rollback.
use Rattle.std.proofs.Common.{◌≡◌, ℕ, true, List, ◌∷◌, Option, Some, None, refl, sym, ◌∙◌, ap, subst}
use Rattle.std.specs.Prelude.{Result, Ok, Err}
use Rattle.seg_words.specs.Types.{Shape, UndoAddr}
use Rattle.disk_model.specs.Crash.{Meaning}
use Rattle.redo_model.specs.Records.{Record, Ended}
use Rattle.redo_model.specs.Model.{is_active, last_undo, IsLawful}
use Rattle.end_laws.specs.Types.{MayEnd, ended_of, table_place}
use Rattle.end_laws.proofs.Allowed.{ends_are_allowed}
use Rattle.page_set.specs.Folded.{page_of}
use Rattle.store_core.specs.Store.{Held, IsTrue}
use Rattle.store_core.specs.Causes.{HasLooked, IsSoundFault}
use Rattle.store_core.specs.declared.fault.StoreFault.{StoreFault}
use Rattle.txn_end.specs.declared.standing.Standing.{Standing}
use Rattle.txn_end.specs.Reading.{standing_in}
use Rattle.store_core.specs.Adding.{Adds}
use Rattle.txn_end.proofs.Given.{standing_given}
use Rattle.store_core.proofs.Additions.{adds_told}

same_standing : (x y : Standing) → ◌≡◌ {A = Option Standing} (Some x) (Some y) → x ≡ y
same_standing x y e = cc

-- what the page of block 1 said of an active transaction
pub standing_is : {D : Type 0} (meaning : Meaning D) (a : Held D) (R : List Record) (t : ℕ) (x : Standing) → IsTrue meaning R a → is_active R t ≡ true → standing_in (page_of a.shape R 1) t ≡ Some x → x ≡ record { entry = table_place R t; last = last_undo R t }
standing_is meaning a R t x h on e = same_standing x _ (sym e ∙ standing_given a.shape R t h.list.within h.lawful on)

pub end_makes : {D : Type 0} (meaning : Meaning D) (a b c : Held D) (x : Standing) (r : Result (Unit {0}) StoreFault) (R : List Record) (t : ℕ) → IsTrue meaning R a → MayEnd R t → HasLooked {T = Standing} meaning a b (Ok x) → standing_in (page_of a.shape R 1) t ≡ Some x
    → ((Q : List Record) → IsTrue meaning Q b → IsLawful b.shape (Ended (record { txn = t; entry = x.entry }) ∷ Q) → Adds meaning Q (Ended (record { txn = t; entry = x.entry }) ∷ Q) b c r)
    → Adds meaning R (Ended (ended_of R t) ∷ R) a c r
end_makes meaning a b c x r R t h may p says adds =
    let e : x.entry ≡ table_place R t = ap (λ (s : Standing). s.entry) (standing_is meaning a R t x h may.active says) in
    adds_told meaning a b c x r (Ended (ended_of R t)) (Ended (record { txn = t; entry = x.entry })) R h p (ap (λ (i : ℕ). Ended (record { txn = t; entry = i })) e) (ends_are_allowed a.shape R t h.lawful may) adds
