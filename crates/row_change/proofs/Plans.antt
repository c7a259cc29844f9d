-- What follows from a planned change.
use Rattle.std.proofs.Common.{◌≡◌, ℕ, suc, ◌+◌, List, [], ◌∷◌, length, Option, Some, None, refl, sym, ◌∙◌, ap, ap₂, subst}
use Rattle.seg_words.specs.Types.{Shape, UndoAddr, By}
use Rattle.redo_model.specs.Records.{Record, Begin, Reuse, RowPart, RowBody, BeginRecord, ReuseRecord}
use Rattle.redo_model.specs.Model.{Content, image_with, part_addr, IsLawful}
use Rattle.version_laws.specs.Types.{begin_of}
use Rattle.change_laws.specs.Types.{RowKind, as_record, Fill, Change, fills_size, change_size, parts_of, new_parts, record_of, Spot, Here, Next, spot_for, undo_start, list_at, list_with, Makes, by_spot, MadeBy, MayInsert, insert_of, InsertMeans}
use Rattle.change_laws.proofs.BegunLaw.{begins_leave, reuses_leave}
use Rattle.change_laws.proofs.SpotLaw.{begins_are_lawful}
use Rattle.change_laws.proofs.MadeLaw.{inserts_are_made}
use Rattle.row_change.specs.declared.actor.Actor.{Actor}
use Rattle.row_change.specs.declared.answer.Done.{Done}
use Rattle.row_change.specs.declared.replaced.Replaced.{Replaced}
use Rattle.row_change.specs.declared.draft.Fill.{Fill as Told}
use Rattle.row_change.specs.declared.draft.Change.{Change as ToldChange}
use Rattle.row_change.specs.declared.draft.Additions.{Additions}
use Rattle.row_change.specs.declared.spot.Spot.{Spot as ToldSpot}
use Rattle.row_change.specs.declared.spot.Spot.TheVariants as told
use Rattle.row_change.specs.Acting.{MayAct, txn_of, old_actor, new_actor, ActsAnew, Acts}
use Rattle.row_change.specs.Adding.{begun, added}
use Rattle.row_change.specs.Drafting.{fill_list, told_kind, told_content, drafted_size, drafted_part, drafted_parts, drafted_body, additions, replaced_of, FillIs, FillsAre, ChangeIs}
use Rattle.row_change.specs.Planning.{planned, CanBeMade, IsBegun, BeginsNext, PlanMade, PlanMeans}
use Rattle.row_change.specs.Spots.{told_spot}

-- ---- parts and sizes

abbrev part_with : ℕ → UndoAddr → ℕ → Replaced → Content → RowPart
part_with t a d r c = record { dba = d; slot = r.slot; entry = Some r.entry; new = image_with c (By t) a r.room; old = r.old }

part_same : (R : List Record) (own : Option ℕ) (t : ℕ) (a : UndoAddr) (f : Told) (g : Fill) → FillIs R own f g → drafted_part f t a ≡ part_with t a g.at.dba (replaced_of R own g.at.dba g.at.slot (length g.content.bytes)) g.content
part_same R own t a f g h =
    ap (λ d. part_with t a d f.replaced (told_content f.content)) h.dba
    ∙ ap (λ (r : Replaced). part_with t a g.at.dba r (told_content f.content)) h.replaced
    ∙ ap (λ (c : Content). part_with t a g.at.dba (replaced_of R own g.at.dba g.at.slot (length g.content.bytes)) c) h.content

parts_old : (R : List Record) (t : ℕ) (a : UndoAddr) (i : ℕ) (fs : List Told) (gs : List Fill) → FillsAre R (Some t) fs gs → drafted_parts fs t a i ≡ parts_of R t a i gs
parts_old R t a i [] [] h = refl
parts_old R t a i [] (g ∷ gs) h = absurd h
parts_old R t a i (f ∷ fs) [] h = absurd h
parts_old R t a i (f ∷ fs) (g ∷ gs) h = ap₂ (λ (p : RowPart) (ps : List RowPart). p ∷ ps) (part_same R (Some t) t (part_addr a i) f g h.0) (parts_old R t a (suc i) fs gs h.1)

parts_new : (R : List Record) (t : ℕ) (a : UndoAddr) (i : ℕ) (fs : List Told) (gs : List Fill) → FillsAre R None fs gs → drafted_parts fs t a i ≡ new_parts R t a i gs
parts_new R t a i [] [] h = refl
parts_new R t a i [] (g ∷ gs) h = absurd h
parts_new R t a i (f ∷ fs) [] h = absurd h
parts_new R t a i (f ∷ fs) (g ∷ gs) h = ap₂ (λ (p : RowPart) (ps : List RowPart). p ∷ ps) (part_same R None t (part_addr a i) f g h.0) (parts_new R t a (suc i) fs gs h.1)

pub size_same : (R : List Record) (own : Option ℕ) (fs : List Told) (gs : List Fill) → FillsAre R own fs gs → drafted_size fs ≡ fills_size R gs
size_same R own [] [] h = refl
size_same R own [] (g ∷ gs) h = absurd h
size_same R own (f ∷ fs) [] h = absurd h
size_same R own (f ∷ fs) (g ∷ gs) h = ap₂ (λ (m n : ℕ). m + n) (ap (λ (r : Replaced). r.size) h.0.replaced) (size_same R own fs gs h.1)

-- ---- the record of the change

abbrev body_with : Actor → UndoAddr → ℕ → ℕ → List RowPart → RowBody
body_with actor a obj row parts = record { txn = actor.txn; entry = actor.entry; obj = obj; row = row; undo = a; previous = actor.previous; parts = parts }

record_same : (actor : Actor) (a : UndoAddr) (x : ToldChange) (c : Change) (parts : List RowPart) → told_kind x.kind ≡ c.kind → x.obj ≡ c.obj → x.row ≡ c.row → drafted_parts (fill_list x.fills) actor.txn a 0 ≡ parts → as_record (told_kind x.kind) (drafted_body actor x a) ≡ as_record c.kind (body_with actor a c.obj c.row parts)
record_same actor a x c parts k o r p =
    ap (λ (y : RowKind). as_record y (drafted_body actor x a)) k
    ∙ ap (λ n. as_record c.kind (body_with actor a n x.row (drafted_parts (fill_list x.fills) actor.txn a 0))) o
    ∙ ap (λ n. as_record c.kind (body_with actor a c.obj n (drafted_parts (fill_list x.fills) actor.txn a 0))) r
    ∙ ap (λ (ps : List RowPart). as_record c.kind (body_with actor a c.obj c.row ps)) p

record_old : (R : List Record) (t : ℕ) (a : UndoAddr) (x : ToldChange) (c : Change) → ChangeIs R (Some t) x c → as_record (told_kind x.kind) (drafted_body (old_actor R t) x a) ≡ record_of R t a c
record_old R t a x c h = record_same (old_actor R t) a x c (parts_of R t a 0 c.fills) h.kind h.obj h.row (parts_old R t a 0 (fill_list x.fills) c.fills h.fills)

record_new : (sh : Shape) (R : List Record) (who entry control : ℕ) (a : UndoAddr) (x : ToldChange) (c : Change) → IsLawful sh R → ChangeIs R None x c
    → as_record (told_kind x.kind) (drafted_body (new_actor R who entry control) x a) ≡ record_of (Begin (begin_of R who entry control) ∷ R) (begin_of R who entry control).txn a c
record_new sh R who entry control a x c l h =
    let g = begin_of R who entry control in
    record_same (new_actor R who entry control) a x c (new_parts R g.txn a 0 c.fills) h.kind h.obj h.row (parts_new R g.txn a 0 (fill_list x.fills) c.fills h.fills) ∙ sym ((begins_leave sh R g l.allowed refl).drafted a c)

-- ---- the list with the records

same_list : (x y : List Record) → ◌≡◌ {A = Option (List Record)} (Some x) (Some y) → x ≡ y
same_list x y e = cc

list_here : (sh : Shape) (B : List Record) (t : ℕ) (c : Change) (a : UndoAddr) (L : List Record) → list_with sh B t c ≡ Some L → spot_for sh B (change_size B c) ≡ Here a → L ≡ record_of B t a c ∷ B
list_here sh B t c a L e s = same_list L (record_of B t a c ∷ B) (sym e ∙ ap (list_at B t c) s)

list_next : (sh : Shape) (B : List Record) (t : ℕ) (c : Change) (q : ReuseRecord) (L : List Record) → list_with sh B t c ≡ Some L → spot_for sh B (change_size B c) ≡ Next q → L ≡ record_of B t (undo_start q) c ∷ Reuse q ∷ B
list_next sh B t c q L e s =
    same_list L (record_of (Reuse q ∷ B) t (undo_start q) c ∷ Reuse q ∷ B) (sym e ∙ ap (list_at B t c) s)
    ∙ ap (λ (r : Record). r ∷ Reuse q ∷ B) ((reuses_leave B q).drafted t (undo_start q) c)

close : (sh : Shape) (R : List Record) (who : ℕ) (own : Option ℕ) (c : Change) (x : Additions) (L : List Record) → by_spot c (spot_for sh R (change_size R c)) ≡ Makes c → IsLawful sh (begun x.begin R) → IsBegun R who own (begun x.begin R)
    → list_with sh (begun x.begin R) (txn_of R own) c ≡ Some L → IsLawful sh L → L ≡ added R x → x.done ≡ record { row = c.row; txn = txn_of R own } → PlanMade sh R who own c x
close sh R who own c x L made first b list lawful e done = record {
  made = made;
  lawful = record { first = first; all = subst (IsLawful sh) e lawful };
  begins = b;
  next = record { before = begun x.begin R; begins = b; list_is = list ∙ ap (λ (y : List Record). Some y) e };
  done = done;
}

abbrev done_with : ℕ → ℕ → Done
done_with row txn = record { row = row; txn = txn }

old_here : (sh : Shape) (R : List Record) (who t : ℕ) (c : Change) (x : ToldChange) (a : UndoAddr) → IsLawful sh R → ChangeIs R (Some t) x c → Here a ≡ spot_for sh R (change_size R c) → MadeBy sh R t c → PlanMade sh R who (Some t) c (additions (old_actor R t) x a None)
old_here sh R who t c x a l h e m =
    close sh R who (Some t) c (additions (old_actor R t) x a None) m.list (ap (by_spot c) (sym e)) l refl m.list_is m.lawful
    (list_here sh R t c a m.list m.list_is (sym e) ∙ ap (λ (r : Record). r ∷ R) (sym (record_old R t a x c h)))
    (ap (λ n. done_with n t) h.row)

old_next : (sh : Shape) (R : List Record) (who t : ℕ) (c : Change) (x : ToldChange) (q : ReuseRecord) → IsLawful sh R → ChangeIs R (Some t) x c → Next q ≡ spot_for sh R (change_size R c) → MadeBy sh R t c → PlanMade sh R who (Some t) c (additions (old_actor R t) x (undo_start q) (Some q))
old_next sh R who t c x q l h e m =
    close sh R who (Some t) c (additions (old_actor R t) x (undo_start q) (Some q)) m.list (ap (by_spot c) (sym e)) l refl m.list_is m.lawful
    (list_next sh R t c q m.list m.list_is (sym e) ∙ ap (λ (r : Record). r ∷ Reuse q ∷ R) (sym (record_old R t (undo_start q) x c h)))
    (ap (λ n. done_with n t) h.row)

spot_begun : (sh : Shape) (R : List Record) (g : BeginRecord) (c : Change) (s : Spot) → IsLawful sh (Begin g ∷ R) → s ≡ spot_for sh R (change_size R c) → spot_for sh (Begin g ∷ R) (change_size (Begin g ∷ R) c) ≡ s
spot_begun sh R g c s l e = (let b = begins_leave sh R g l.allowed.0 l.allowed.1.kind.number in b.spot (change_size (Begin g ∷ R) c) ∙ ap (spot_for sh R) (b.size c) ∙ sym e)

new_here : (sh : Shape) (R : List Record) (who entry control : ℕ) (c : Change) (x : ToldChange) (a : UndoAddr) → IsLawful sh R → IsLawful sh (Begin (begin_of R who entry control) ∷ R) → BeginsNext R who (Begin (begin_of R who entry control) ∷ R) → ChangeIs R None x c → Here a ≡ spot_for sh R (change_size R c)
    → MadeBy sh (Begin (begin_of R who entry control) ∷ R) (begin_of R who entry control).txn c → PlanMade sh R who None c (additions (new_actor R who entry control) x a None)
new_here sh R who entry control c x a l lg b h e m =
    let g = begin_of R who entry control in
    close sh R who None c (additions (new_actor R who entry control) x a None) m.list (ap (by_spot c) (sym e)) lg b m.list_is m.lawful
    (list_here sh (Begin g ∷ R) g.txn c a m.list m.list_is (spot_begun sh R g c (Here a) lg e) ∙ ap (λ (r : Record). r ∷ Begin g ∷ R) (sym (record_new sh R who entry control a x c l h)))
    (ap (λ n. done_with n g.txn) h.row)

new_next : (sh : Shape) (R : List Record) (who entry control : ℕ) (c : Change) (x : ToldChange) (q : ReuseRecord) → IsLawful sh R → IsLawful sh (Begin (begin_of R who entry control) ∷ R) → BeginsNext R who (Begin (begin_of R who entry control) ∷ R) → ChangeIs R None x c → Next q ≡ spot_for sh R (change_size R c)
    → MadeBy sh (Begin (begin_of R who entry control) ∷ R) (begin_of R who entry control).txn c → PlanMade sh R who None c (additions (new_actor R who entry control) x (undo_start q) (Some q))
new_next sh R who entry control c x q l lg b h e m =
    let g = begin_of R who entry control in
    close sh R who None c (additions (new_actor R who entry control) x (undo_start q) (Some q)) m.list (ap (by_spot c) (sym e)) lg b m.list_is m.lawful
    (list_next sh (Begin g ∷ R) g.txn c q m.list m.list_is (spot_begun sh R g c (Next q) lg e) ∙ ap (λ (r : Record). r ∷ Reuse q ∷ Begin g ∷ R) (sym (record_new sh R who entry control (undo_start q) x c l h)))
    (ap (λ n. done_with n g.txn) h.row)

begin_lawful : (sh : Shape) (R : List Record) (who : ℕ) (a : Actor) → IsLawful sh R → MayAct R who None → (h : ActsAnew R who a) → IsLawful sh (Begin (begin_of R who h.entry h.control) ∷ R)
begin_lawful sh R who a l m h = begins_are_lawful sh R who h.entry h.control l m.least m.most m.none_open h.takes

next_of : (R : List Record) (who : ℕ) (a : Actor) → (h : ActsAnew R who a) → BeginsNext R who (Begin (begin_of R who h.entry h.control) ∷ R)
next_of R who a h = record { entry = h.entry; control = h.control; takes = h.takes; is = refl }

pub plan_means : (sh : Shape) (R : List Record) (who : ℕ) (own : Option ℕ) (c : Change) (actor : Actor) (x : ToldChange) (s : ToldSpot) → IsLawful sh R → MayAct R who own → Acts R who own actor → ChangeIs R own x c → CanBeMade sh R own c → told_spot s ≡ spot_for sh R (change_size R c)
    → PlanMeans sh R who own c (planned actor x s)
plan_means sh R who own c actor x (told.Full hs) l m acts h can e = sym e
plan_means sh R who (Some t) c actor x (told.Here a) l m acts h can e = subst (λ (y : Actor). PlanMade sh R who (Some t) c (additions y x a None)) (sym acts) (old_here sh R who t c x a l h e (can (ap (by_spot c) (sym e))))
plan_means sh R who (Some t) c actor x (told.Next q) l m acts h can e = subst (λ (y : Actor). PlanMade sh R who (Some t) c (additions y x (undo_start q) (Some q))) (sym acts) (old_next sh R who t c x q l h e (can (ap (by_spot c) (sym e))))
plan_means sh R who None c actor x (told.Here a) l m acts h can e =
    let lg = begin_lawful sh R who actor l m acts in
    subst (λ (y : Actor). PlanMade sh R who None c (additions y x a None)) (sym acts.is) (new_here sh R who acts.entry acts.control c x a l lg (next_of R who actor acts) h e (can (ap (by_spot c) (sym e)) (begin_of R who acts.entry acts.control) lg))
plan_means sh R who None c actor x (told.Next q) l m acts h can e =
    let lg = begin_lawful sh R who actor l m acts in
    subst (λ (y : Actor). PlanMade sh R who None c (additions y x (undo_start q) (Some q))) (sym acts.is) (new_next sh R who acts.entry acts.control c x q l lg (next_of R who actor acts) h e (can (ap (by_spot c) (sym e)) (begin_of R who acts.entry acts.control) lg))

-- ---- an insert

pub insert_can : (sh : Shape) (R : List Record) (own : Option ℕ) (o b : ℕ) (bytes : List ℕ) → IsLawful sh R → MayInsert sh R own o b bytes → CanBeMade sh R own (insert_of R o b bytes)
insert_can sh R own o b bytes l m e = (subst (InsertMeans sh R own (insert_of R o b bytes)) e (inserts_are_made sh R own o b bytes l m)).1
