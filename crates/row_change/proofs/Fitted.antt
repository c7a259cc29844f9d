-- Whether a row fits, and which way an update goes.
use Rattle.std.proofs.Common.{◌≡◌, ◌≢◌, ℕ, ◌<◌, Bool, true, false, cond, leb, ltb, List, ◌∷◌, [], length, Option, Some, None, refl, sym, ◌∙◌, ap, ap₂, inl, inr, leb-true, leb-false, lt-ltb}
use Rattle.seg_words.proofs.Lemmas.{cases_Bool, cond-true}
use Rattle.seg_words.specs.Types.{Shape, Kind, Empty, Row, Head, Body, Rowid, Slot, Block, is_shape}
use Rattle.redo_model.specs.Records.{Record}
use Rattle.redo_model.specs.Model.{ended_in, image, block_of, slot_count, IsRowBlock, IsLawful}
use Rattle.redo_model.proofs.Bridge.{count_is}
use Rattle.row_block.specs.Types.{RowPage}
use Rattle.txn_block.specs.Types.{TxnTable}
use Rattle.version_laws.specs.Types.{HoldsTable, ended_by}
use Rattle.version_laws.proofs.TableLaw.{tables_tell}
use Rattle.version_laws.proofs.SlotLaw.{slots_past_the_last}
use Rattle.store_laws.specs.Kinds.{HasRowPage}
use Rattle.store_laws.proofs.KindsLaw.{rows_stand}
use Rattle.page_set.specs.declared.page.Page.{Page}
use Rattle.page_set.specs.declared.page.Page.TheVariants.{Rows}
use Rattle.page_set.specs.Folded.{page_of}
use Rattle.change_laws.specs.Types.{Stand, Whole, Apart, StandsAt, InPlace, ToHead, ToOther, fits_at, path_of, updated_blocks, blocks_at}
use Rattle.row_change.specs.Fitting.{fitting_at, fitting_in, AreThere}
use Rattle.row_change.specs.Updating.{blocks_for}

-- by the page

pub fitting_same : (q e : TxnTable) (own : Option ℕ) (k len : ℕ) (page : Page) (rows : RowPage) (x : Option Bool) → page ≡ Rows rows → e ≡ q → x ≡ fitting_at (ended_by e) rows.block own k len → x ≡ fitting_in q own k len page
fitting_same q e own k len page rows x p s f = f ∙ ap (λ (y : TxnTable). fitting_at (ended_by y) rows.block own k len) s ∙ ap (λ (y : Page). fitting_in q own k len y) (sym p)

-- by the list

by_page : (sh : Shape) (R : List Record) (q : TxnTable) (own : Option ℕ) (o : ℕ) (p : Rowid) (len : ℕ) → is_shape sh ≡ true → IsLawful sh R → HoldsTable R q → IsRowBlock sh R o p.dba → fitting_in q own p.slot len (page_of sh R p.dba) ≡ fitting_at (ended_in R) (block_of R p.dba) own p.slot len
by_page sh R q own o p len s h k x =
    let t : HasRowPage sh R p.dba = rows_stand sh R o p.dba s h x in
    let e : ended_by q ≡ ended_in R = (tables_tell sh R q h.allowed k).ended in
    ap (λ (y : Page). fitting_in q own p.slot len y) t.page
    ∙ ap₂ (λ (f : ℕ → Bool) (y : Block). fitting_at f y own p.slot len) e t.holds.block

pub fitting_given : (sh : Shape) (R : List Record) (q : TxnTable) (own : Option ℕ) (o : ℕ) (p : Rowid) (len : ℕ) → is_shape sh ≡ true → IsLawful sh R → HoldsTable R q → IsRowBlock sh R o p.dba → p.slot < slot_count R p.dba → fitting_in q own p.slot len (page_of sh R p.dba) ≡ Some (fits_at R own p len)
fitting_given sh R q own o p len s h k x l =
    by_page sh R q own o p len s h k x
    ∙ ap (λ n. cond (ltb p.slot n) (some (fits_at R own p len)) None) (count_is R p.dba)
    ∙ cond-true _ _ _ (lt-ltb p.slot (slot_count R p.dba) l)
  where
    some : Bool → Option Bool
    some v = Some v

fits_inside : (b u v : Bool) → ◌≡◌ {A = Option Bool} (cond b (Some u) None) (Some v) → v ≡ u
fits_inside true u v e = cc
fits_inside false u v e = absurd (let z : ◌≡◌ {A = Option Bool} None (Some v) = e in cc)

pub fitting_is : (sh : Shape) (R : List Record) (q : TxnTable) (own : Option ℕ) (o : ℕ) (p : Rowid) (len : ℕ) (v : Bool) → is_shape sh ≡ true → IsLawful sh R → HoldsTable R q → IsRowBlock sh R o p.dba → fitting_in q own p.slot len (page_of sh R p.dba) ≡ Some v → v ≡ fits_at R own p len
fitting_is sh R q own o p len v s h k x e = fits_inside (ltb p.slot (length (block_of R p.dba).slots)) (fits_at R own p len) v (sym (by_page sh R q own o p len s h k x) ∙ e)

-- where a row stands slots are there

slot_there : (R : List Record) (b k : ℕ) (kind : Kind) → (image R b k).kind ≡ kind → kind ≢ Empty → k < slot_count R b
slot_there R b k kind e n = elim (cases_Bool (leb (slot_count R b) k)) [
  | inr f ↦ leb-false (slot_count R b) k f
  | inl y ↦ absurd (n (sym e ∙ ap (λ (i : Slot). i.kind) (slots_past_the_last R b k (leb-true (slot_count R b) k y)).is_new))
]

row_not : ◌≡◌ {A = Kind} Row Empty → ⊥
row_not e = cc

head_not : ◌≡◌ {A = Kind} Head Empty → ⊥
head_not e = cc

body_not : ◌≡◌ {A = Kind} Body Empty → ⊥
body_not e = cc

pub all_there : (R : List Record) (n : ℕ) (x : Stand) → StandsAt R n x → AreThere R x
all_there R n (Whole p) s = slot_there R p.dba p.slot Row s.kind row_not
all_there R n (Apart head body) s = (slot_there R head.dba head.slot Head s.head_kind head_not, slot_there R body.dba body.slot Body s.body_kind body_not)

-- the blocks of a way

pub blocks_same : (R : List Record) (own : Option ℕ) (x : Stand) (len : ℕ) → blocks_for x (path_of R own x len) ≡ updated_blocks R own x len
blocks_same R own (Whole p) len = elim (fits_at R own p len) as (λ v. blocks_for (Whole p) (cond v InPlace ToOther) ≡ cond v (p.dba ∷ []) (blocks_at (Whole p))) [ true ↦ refl | false ↦ refl ]
blocks_same R own (Apart head body) len = elim (fits_at R own body len) as (λ v. blocks_for (Apart head body) (cond v InPlace (cond (fits_at R own head len) ToHead ToOther)) ≡ cond v (body.dba ∷ []) (blocks_at (Apart head body))) [
  | true ↦ refl
  | false ↦ elim (fits_at R own head len) as (λ w. blocks_for (Apart head body) (cond w ToHead ToOther) ≡ blocks_at (Apart head body)) [ true ↦ refl | false ↦ refl ]
]
