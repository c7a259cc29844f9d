-- What a row block answers of what stands in its slots.
use Rattle.std.proofs.Common.{◌≡◌, ℕ, Bool, true, List, length, get_or, ltb, Option, Some, None, refl, sym, ◌∙◌, ap, subst, le-ltb}
use Rattle.seg_words.proofs.Lemmas.{cond-false}
use Rattle.seg_words.specs.Types.{LONGEST_ROW, Shape, Slot, Block, new_slot}
use Rattle.disk_model.specs.Crash.{Meaning}
use Rattle.redo_model.specs.Records.{Record}
use Rattle.redo_model.specs.Model.{block_of, ended_in, image}
use Rattle.redo_model.proofs.Bridge.{image_is}
use Rattle.redo_laws.proofs.room.RoomLaw.{blocks_have_room}
use Rattle.row_block.specs.RowPage.{RowPage}
use Rattle.txn_block.specs.Types.{TxnTable}
use Rattle.version_laws.specs.Types.{ended_by}
use Rattle.page_set.specs.declared.page.Page.{Page}
use Rattle.page_set.specs.declared.page.Page.TheVariants.{Rows}
use Rattle.page_set.specs.Folded.{page_of}
use Rattle.store_laws.specs.Kinds.{HasRowPage}
use Rattle.store_laws.proofs.KindsLaw.{rows_stand}
use Rattle.row_change.specs.Drafting.{place_or}
use Rattle.row_change.specs.Reading.{slot_or}
use Rattle.store_core.specs.Store.{Held, has_page}
use Rattle.shrink_move.specs.declared.ground.Ground.{Ground}
use Rattle.shrink_move.specs.declared.standing.Standing.{Standing}
use Rattle.shrink_move.specs.Asked.{standing_at, standing_if, standing_in}
use Rattle.shrink_move.specs.Drafting.{HasRows, standing_of}
use Rattle.shrink_move.specs.Known.{Knows}
use Rattle.shrink_move.proofs.Opening.{row_has}

-- ---- by the page

pub standing_same : (q e : TxnTable) (b slot : ℕ) (k : Option ℕ) (page : Page) (rows : RowPage) → page ≡ Rows rows → e ≡ q → slot ≡ slot_or (ended_by e) rows.block k → standing_at b slot rows.block ≡ standing_in q b k page
standing_same q e b slot k page rows p s r =
    ap (λ n. standing_at b n rows.block) r
    ∙ ap (λ (y : TxnTable). standing_at b (slot_or (ended_by y) rows.block k) rows.block) s
    ∙ ap (λ (y : Page). standing_in q b k y) (sym p)

-- ---- by the list

slot_same : (R : List Record) (b : ℕ) (k : Option ℕ) → slot_or (ended_in R) (block_of R b) k ≡ place_or R b k
slot_same R b None = refl
slot_same R b (Some k) = refl

-- by the shape of the store
rows_here : {D : Type 0} (meaning : Meaning D) (s : Held D) (R : List Record) (o b : ℕ) (g : Ground) → Knows meaning R o s g → HasRows g.shape R b → HasRows s.shape R b
rows_here meaning s R o b g w x = subst (λ (sh : Shape). HasRows sh R b) w.shape x

pub standing_has : {D : Type 0} (meaning : Meaning D) (s : Held D) (R : List Record) (o b : ℕ) (g : Ground) → Knows meaning R o s g → HasRows g.shape R b → has_page s.shape b ≡ true
standing_has meaning s R o b g w x = (let h = rows_here meaning s R o b g w x in row_has s.shape R h.table b w.holds.lawful.allowed h.home)

pub standing_read : {D : Type 0} (meaning : Meaning D) (s : Held D) (R : List Record) (o b : ℕ) (k : Option ℕ) (g : Ground) → Knows meaning R o s g → HasRows g.shape R b → standing_in g.table b k (page_of s.shape R b) ≡ Some (standing_of R b (place_or R b k))
standing_read meaning s R o b k g w x =
    let h = rows_here meaning s R o b g w x in
    let p : HasRowPage s.shape R b = rows_stand s.shape R h.table b w.holds.list.within w.holds.lawful h.home in
    let i = place_or R b k in
    let old : get_or (block_of R b).slots i new_slot ≡ image R b i = image_is R b i in
    let short = (blocks_have_room s.shape R b w.holds.lawful.allowed).rows i in
    ap (λ (y : Page). standing_in g.table b k y) p.page
    ∙ ap (λ (f : ℕ → Bool). standing_at b (slot_or f p.rows.block k) p.rows.block) w.ended
    ∙ ap (λ (y : Block). standing_at b (slot_or (ended_in R) y k) y) p.holds.block
    ∙ ap (λ j. standing_at b j (block_of R b)) (slot_same R b k)
    ∙ ap (λ (y : Slot). standing_if b i y) old
    ∙ cond-false (ltb LONGEST_ROW (length (image R b i).bytes)) None (Some (standing_of R b i)) (le-ltb LONGEST_ROW (length (image R b i).bytes) short)

standing_inside : (x y : Standing) → ◌≡◌ {A = Option Standing} (Some x) (Some y) → x ≡ y
standing_inside x y e = cc

pub standing_told : {D : Type 0} (meaning : Meaning D) (s : Held D) (R : List Record) (o b : ℕ) (k : Option ℕ) (g : Ground) (x : Standing) → Knows meaning R o s g → HasRows g.shape R b → standing_in g.table b k (page_of s.shape R b) ≡ Some x → x ≡ standing_of R b (place_or R b k)
standing_told meaning s R o b k g x w h e = standing_inside x (standing_of R b (place_or R b k)) (sym e ∙ standing_read meaning s R o b k g w h)
