-- An opening, over plain disks.
use Rattle.std.proofs.Common.{◌≡◌, ◌≢◌, ℕ, ◌+◌, ◌*◌, ◌<◌, ◌≤◌, length, List, Bool, true, false, ◌&&◌, ◌==◌, refl, sym, ◌∙◌, ap, subst, arith, Option, Some, None, Ok, Err}
use Rattle.seg_words.specs.Types.{Shape, BLOCK_SIZE, DOUBLE_WRITE_BLOCK}
use Rattle.disk_model.specs.Types.{Meaning, Leaves, Untouched, OnlyFile, IsSettled, Settles}
use Rattle.disk_model.specs.declared.disk.File.TheVariants.{Data}
use Rattle.disk_model.proofs.Lemmas.{settles_looked, leaves_looked}
use Rattle.page_store.specs.Types.{part, block, gate, head_blocks, is_place, is_sound_area, needs_finish, HasPages, AsLong, IsShut, IsUnfinished, Leads, IsPartRead, IsAreaFound, IsOpening, Answers, PageFault, DeviceFault, BadPage, NoMemory}
use Rattle.page_store.proofs.Heads.{is_same}
use Rattle.page_store.proofs.Batch.{outside}
use Rattle.page_store.proofs.Stages.{page_shut}
use Rattle.page_store.proofs.Whole.{settles_lead, settles_long, leaves_long}

-- a fault of the area is that of the opening, and never comes for a store
pub same_fault : (shape : Shape) (bytes : List ℕ) (fault : PageFault) → IsAreaFound shape bytes (Err fault) → IsOpening shape bytes (Err fault)
same_fault shape bytes DeviceFault is = tt
same_fault shape bytes (BadPage dba) is = is
same_fault shape bytes NoMemory is = is

pub not_bad : {A : Type 0} (shape : Shape) (bytes : List ℕ) (fault : PageFault) (P : A → Type 0) → is_sound_area shape bytes ≡ true → IsAreaFound shape bytes (Err fault) → Answers (Err fault) P
not_bad shape bytes DeviceFault P sound is = tt
not_bad shape bytes (BadPage dba) P sound is = clash (is_sound_area shape bytes) sound is.0
  where
    clash : (b : Bool) → b ≡ true → b ≡ false → ⊥
    clash b p q = cc
not_bad shape bytes NoMemory P sound is = is

pub none_found : (shape : Shape) (bytes : List ℕ) (found : Option (List ℕ)) → found ≡ None → IsAreaFound shape bytes (Ok found) → (is_sound_area shape bytes ≡ true) × (gate bytes ≢ 1)
none_found shape bytes found none is = subst (λ (o : Option (List ℕ)). IsAreaFound shape bytes (Ok o)) none is

pub some_found : (shape : Shape) (bytes : List ℕ) (found : Option (List ℕ)) (blocks slice : List ℕ) → found ≡ Some blocks → slice ≡ blocks → IsAreaFound shape bytes (Ok found) → (is_sound_area shape bytes ≡ true) × (gate bytes ≡ 1) × (slice ≡ head_blocks (block DOUBLE_WRITE_BLOCK bytes))
some_found shape bytes found blocks slice some same is =
    let at : (is_sound_area shape bytes ≡ true) × (gate bytes ≡ 1) × (blocks ≡ head_blocks (block DOUBLE_WRITE_BLOCK bytes)) = subst (λ (o : Option (List ℕ)). IsAreaFound shape bytes (Ok o)) some is in
    (at.0, at.1, same ∙ at.2)

pub device_fault : (shape : Shape) (bytes : List ℕ) (fault : PageFault) → fault ≡ DeviceFault → IsOpening shape bytes (Err fault)
device_fault shape bytes fault is = subst (λ (f : PageFault). IsOpening shape bytes (Err f)) (sym is) tt

-- the area counts
pub finished_only : (shape : Shape) (bytes : List ℕ) → is_sound_area shape bytes ≡ true → gate bytes ≡ 1 → needs_finish shape bytes ≡ false → ⊥
finished_only shape bytes sound one none = clash (is_sound_area shape bytes) (gate bytes == 1) sound (is_same (gate bytes) 1 one) none
  where
    clash : (a b : Bool) → a ≡ true → b ≡ true → (a && b) ≡ false → ⊥
    clash a b p q r = cc (ap (λ (x : Bool). x && b) p)

module _ {D : Type 0} (meaning : Meaning D) (shape : Shape) (pages : ℕ → List ℕ) (d0 d1 : D) (settled : IsSettled meaning d0 Data) (has : HasPages shape pages (meaning.files d0).data_bytes) (look : Untouched meaning d0 d1) where
  abbrev P : List ℕ → Type 0
  P = HasPages shape pages

  abbrev b0 : List ℕ
  b0 = (meaning.files d0).data_bytes

  pub looked_at : Leaves meaning d0 d1 (OnlyFile meaning d0 Data (AsLong b0 P))
  looked_at = leaves_looked meaning Data d0 d1 (AsLong b0 P) settled look (record { long = refl; is = has })

  pub was_shut : gate (meaning.files d0).data_bytes ≢ 1 → Leads meaning d0 d1 shape pages
  was_shut shut = settles_lead meaning d0 d1 shape pages (settles_looked meaning Data d0 d1 (AsLong b0 (IsShut shape pages)) settled look (record { long = refl; is = record { has = has; shut = shut } }))

  module _ (blocks : List ℕ) (one : gate (meaning.files d0).data_bytes ≡ 1) (named : blocks ≡ head_blocks (block DOUBLE_WRITE_BLOCK (meaning.files d0).data_bytes)) where
    pub unfinished : Settles meaning d0 d1 Data (AsLong b0 (IsUnfinished shape pages blocks))
    unfinished = settles_looked meaning Data d0 d1 (AsLong b0 (IsUnfinished shape pages blocks)) settled look (record { long = refl; is = record { has = has; one = one; named = named } })

    pub finish_leaves : (d2 : D) → Leaves meaning d1 d2 (OnlyFile meaning d1 Data (AsLong (meaning.files d1).data_bytes P)) → Leaves meaning d0 d2 (OnlyFile meaning d0 Data (AsLong b0 P))
    finish_leaves d2 leaves = leaves_long meaning d0 d1 d2 (IsUnfinished shape pages blocks) unfinished P P looked_at leaves (λ b is. is)

    pub finish_leads : (d2 : D) → Settles meaning d1 d2 Data (AsLong (meaning.files d1).data_bytes (IsShut shape pages)) → Leads meaning d0 d2 shape pages
    finish_leads d2 settles = settles_lead meaning d0 d2 shape pages (settles_long meaning d0 d1 d2 (IsUnfinished shape pages blocks) unfinished (IsShut shape pages) settles)

-- a look at a page of a store
module _ (shape : Shape) (pages : ℕ → List ℕ) (bytes : List ℕ) (is_shut : IsShut shape pages bytes) (dba : ℕ) (place : is_place shape dba ≡ true) where
  pub is_page : (at : ℕ) (page : List ℕ) (whole : Bool) → at ≡ BLOCK_SIZE * dba → whole ≡ true → IsPartRead at bytes page whole → page ≡ pages dba
  is_page at page whole here test is =
      let read : (at + BLOCK_SIZE ≤ length bytes) × (page ≡ part at BLOCK_SIZE bytes) = subst (IsPartRead at bytes page) test is in
      read.1 ∙ ap (λ (n : ℕ). part n BLOCK_SIZE bytes) here ∙ sym (page_shut bytes dba is_shut.shut) ∙ is_shut.has.each dba place

  pub is_there : (at : ℕ) (page : List ℕ) (whole : Bool) → at ≡ BLOCK_SIZE * dba → whole ≡ false → IsPartRead at bytes page whole → ⊥
  is_there at page whole here test is =
      let short : length bytes < at + BLOCK_SIZE = subst (IsPartRead at bytes page) test is in
      omega (arith, here, short, (outside shape dba place).within, is_shut.has.long)
