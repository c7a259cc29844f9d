-- What follows where an update or a delete answers that it makes its change.
use Rattle.std.proofs.Common.{◌≡◌, ℕ, List, ◌∷◌, length, Option, Some, None, refl, sym, ◌∙◌, ap, subst}
use Rattle.seg_words.specs.Types.{Shape}
use Rattle.redo_model.specs.Records.{Record, Begin, Reuse, BeginRecord}
use Rattle.redo_model.specs.Model.{IsLawful}
use Rattle.change_laws.specs.Drafts.{Change, change_size, record_of, insert_of, update_of, migrate_of, return_of, delete_of, Stand, Whole, Apart}
use Rattle.change_laws.specs.Spots.{Spot, Here, Next, Full, undo_start, spot_for, list_at}
use Rattle.change_laws.specs.Ready.{IsReady, blocks_at, Path, InPlace, ToHead, ToOther, path_of, updated_blocks, MayInsert, MayUpdate, MayReturn, MayMigrate, MayDelete, UpdateGoes}
use Rattle.change_laws.specs.Allowed.{LawfulAt}
use Rattle.change_laws.specs.Answers.{change_to_head, change_by, stand_at, Means, by_spot, MayBeTarget, MadeBy, MadeFor, UpdatesAreMade, DeletesAreMade, InsertMeans, InsertsAreMade}
use Rattle.change_laws.proofs.ReadyLaw.{inserts_are_ready, updates_are_ready, migrates_are_ready, returns_are_ready, deletes_are_ready, updates_go}
use Rattle.change_laws.proofs.SpotLaw.{changes_are_lawful, full_is_told}
use Rattle.change_laws.proofs.BegunLaw.{begins_leave, begins_keep_mays}
use Rattle.change_laws.proofs.AnswerLaw.{answers_mean}

same_change : (a b : Change) → ◌≡◌ {A = Option Change} (Some a) (Some b) → a ≡ b
same_change a b e = cc

abbrev ReadyFor : Shape → List Record → Option ℕ → Change → Type 0
ReadyFor sh R None c = (g : BeginRecord) → IsLawful sh (Begin g ∷ R) → IsReady sh (Begin g ∷ R) g.txn c
ReadyFor sh R (Some t) c = IsReady sh R t c

update_ready : (sh : Shape) (R : List Record) (own : Option ℕ) (o n : ℕ) (x : Stand) (bytes : List ℕ) → IsLawful sh R → MayUpdate R own o n x bytes → ReadyFor sh R own (update_of R o n x bytes)
update_ready sh R None o n x bytes l m = λ g k.
    subst (IsReady sh (Begin g ∷ R) g.txn) ((begins_leave sh R g l.allowed k.allowed.1.kind.number).update o n x bytes) (updates_are_ready sh (Begin g ∷ R) g.txn o n x bytes k ((begins_keep_mays sh R g l.allowed k.allowed.1.kind.number).update o n x bytes m))
update_ready sh R (Some t) o n x bytes l m = updates_are_ready sh R t o n x bytes l m

migrate_ready : (sh : Shape) (R : List Record) (own : Option ℕ) (o n : ℕ) (x : Stand) (b : ℕ) (bytes : List ℕ) → IsLawful sh R → MayMigrate sh R own o n x b bytes → ReadyFor sh R own (migrate_of R o n x b bytes)
migrate_ready sh R None o n x b bytes l m = λ g k.
    subst (IsReady sh (Begin g ∷ R) g.txn) ((begins_leave sh R g l.allowed k.allowed.1.kind.number).migrate o n x b bytes) (migrates_are_ready sh (Begin g ∷ R) g.txn o n x b bytes k ((begins_keep_mays sh R g l.allowed k.allowed.1.kind.number).migrate o n x b bytes m))
migrate_ready sh R (Some t) o n x b bytes l m = migrates_are_ready sh R t o n x b bytes l m

return_ready : (sh : Shape) (R : List Record) (own : Option ℕ) (o n : ℕ) (x : Stand) (bytes : List ℕ) (c : Change) → IsLawful sh R → UpdateGoes sh R own o n x bytes ToHead → change_to_head o n x bytes ≡ Some c → ReadyFor sh R own c
return_ready sh R own o n (Whole p) bytes c l m e = absurd m
return_ready sh R own o n (Apart head body) bytes c l m e = subst (ReadyFor sh R own) (same_change (return_of o n head body bytes) c e) (by_own own m)
  where
    by_own : (own : Option ℕ) → MayReturn R own o n head body bytes → ReadyFor sh R own (return_of o n head body bytes)
    by_own None m = λ g k. returns_are_ready sh (Begin g ∷ R) g.txn o n head body bytes k ((begins_keep_mays sh R g l.allowed k.allowed.1.kind.number).return' o n head body bytes m)
    by_own (Some t) m = returns_are_ready sh R t o n head body bytes l m

delete_ready : (sh : Shape) (R : List Record) (own : Option ℕ) (o n : ℕ) (x : Stand) → IsLawful sh R → MayDelete R own o n x → ReadyFor sh R own (delete_of o n x)
delete_ready sh R None o n x l m = λ g k. deletes_are_ready sh (Begin g ∷ R) g.txn o n x k ((begins_keep_mays sh R g l.allowed k.allowed.1.kind.number).delete o n x m)
delete_ready sh R (Some t) o n x l m = deletes_are_ready sh R t o n x l m

way_ready : (sh : Shape) (R : List Record) (own : Option ℕ) (o n : ℕ) (x : Stand) (bytes : List ℕ) (to : Option ℕ) (c : Change) (w : Path) → IsLawful sh R → MayBeTarget sh R own o x (length bytes) to → UpdateGoes sh R own o n x bytes w → change_by R o n x bytes to w ≡ Some c
    → ReadyFor sh R own c
way_ready sh R own o n x bytes to c InPlace l a m e = subst (ReadyFor sh R own) (same_change (update_of R o n x bytes) c e) (update_ready sh R own o n x bytes l m)
way_ready sh R own o n x bytes to c ToHead l a m e = return_ready sh R own o n x bytes c l m e
way_ready sh R own o n x bytes None c ToOther l a m e = absurd (no_change c e)
  where
    no_change : (c : Change) → ◌≡◌ {A = Option Change} None (Some c) → ⊥
    no_change c q = cc
way_ready sh R own o n x bytes (Some b) c ToOther l a m e = subst (ReadyFor sh R own) (same_change (migrate_of R o n x b bytes) c e) (migrate_ready sh R own o n x b bytes l (m b a.here a.takes a.other))

-- the list with a change that may be made, whose undo goes somewhere

made_at : (sh : Shape) (R : List Record) (t : ℕ) (c : Change) (s : Spot) → spot_for sh R (change_size R c) ≡ s → ((hs : List (ℕ × ℕ)) → s ≡ Full hs → ⊥) → IsReady sh R t c → LawfulAt sh R t c s → MadeBy sh R t c
made_at sh R t c (Here a) q f r l = record { ready = r; list = record_of R t a c ∷ R; list_is = ap (list_at R t c) q; lawful = l }
made_at sh R t c (Next u) q f r l = record { ready = r; list = record_of (Reuse u ∷ R) t (undo_start u) c ∷ Reuse u ∷ R; list_is = ap (list_at R t c) q; lawful = l }
made_at sh R t c (Full hs) q f r l = absurd (f hs refl)

made : (sh : Shape) (R : List Record) (t : ℕ) (c : Change) → IsLawful sh R → ((hs : List (ℕ × ℕ)) → spot_for sh R (change_size R c) ≡ Full hs → ⊥) → IsReady sh R t c → MadeBy sh R t c
made sh R t c l f r = made_at sh R t c (spot_for sh R (change_size R c)) refl f r (changes_are_lawful sh R t c l r)

made_for : (sh : Shape) (R : List Record) (own : Option ℕ) (c : Change) → IsLawful sh R → ((hs : List (ℕ × ℕ)) → spot_for sh R (change_size R c) ≡ Full hs → ⊥) → ReadyFor sh R own c → MadeFor sh R own c
made_for sh R None c l f r = λ g k.
    let b = begins_leave sh R g l.allowed k.allowed.1.kind.number in
    let same : spot_for sh (Begin g ∷ R) (change_size (Begin g ∷ R) c) ≡ spot_for sh R (change_size R c) = b.spot (change_size (Begin g ∷ R) c) ∙ ap (spot_for sh R) (b.size c) in
    made sh (Begin g ∷ R) g.txn c k (λ hs e. f hs (sym same ∙ e)) (r g k)
made_for sh R (Some t) c l f r = made sh R t c l f r

pub updates_are_made : UpdatesAreMade
updates_are_made sh R own o n p born undo start bytes to c l on f size target e =
    let x = stand_at R p in
    let len = length bytes in
    let w = path_of R own x len in
    let m = subst (Means sh R own o n p start (updated_blocks R own x len) len (change_by R o n x bytes to w)) e (answers_mean sh R own o n p born undo start (updated_blocks R own x len) len (change_by R o n x bytes to w) l.allowed on f) in
    made_for sh R own c l m.not_full (way_ready sh R own o n x bytes to c w l target (updates_go sh R own o n x bytes m.past.free.write size m.past.entries) m.change_is)

pub deletes_are_made : DeletesAreMade
deletes_are_made sh R own o n p born undo start c l on f e =
    let x = stand_at R p in
    let m = subst (Means sh R own o n p start (blocks_at x) 0 (Some (delete_of o n x))) e (answers_mean sh R own o n p born undo start (blocks_at x) 0 (Some (delete_of o n x)) l.allowed on f) in
    made_for sh R own c l m.not_full (subst (ReadyFor sh R own) (same_change (delete_of o n x) c m.change_is) (delete_ready sh R own o n x l (record { write = m.past.free.write; entries = m.past.entries })))

-- an insert

insert_ready : (sh : Shape) (R : List Record) (own : Option ℕ) (o b : ℕ) (bytes : List ℕ) → IsLawful sh R → MayInsert sh R own o b bytes → ReadyFor sh R own (insert_of R o b bytes)
insert_ready sh R None o b bytes l m = λ g k.
    subst (IsReady sh (Begin g ∷ R) g.txn) ((begins_leave sh R g l.allowed k.allowed.1.kind.number).insert o b bytes) (inserts_are_ready sh (Begin g ∷ R) g.txn o b bytes k ((begins_keep_mays sh R g l.allowed k.allowed.1.kind.number).insert o b bytes m))
insert_ready sh R (Some t) o b bytes l m = inserts_are_ready sh R t o b bytes l m

insert_at : (sh : Shape) (R : List Record) (own : Option ℕ) (c : Change) (s : Spot) → spot_for sh R (change_size R c) ≡ s → IsLawful sh R → ReadyFor sh R own c → InsertMeans sh R own c (by_spot c s)
insert_at sh R own c (Here a) q l r = (refl, made_for sh R own c l (λ hs e. let z : Here a ≡ Full hs = sym q ∙ e in cc) r)
insert_at sh R own c (Next u) q l r = (refl, made_for sh R own c l (λ hs e. let z : Next u ≡ Full hs = sym q ∙ e in cc) r)
insert_at sh R own c (Full hs) q l r = full_is_told sh R (change_size R c) hs q

pub inserts_are_made : InsertsAreMade
inserts_are_made sh R own o b bytes l m = let c = insert_of R o b bytes in insert_at sh R own c (spot_for sh R (change_size R c)) refl l (insert_ready sh R own o b bytes l m)
