-- The steps of a batch one after the other, over plain disks.
use Rattle.std.proofs.Common.{◌≡◌, inl, inr, ℕ, List, length, sym, ◌∙◌, ap, subst, Err}
use Rattle.seg_words.specs.Types.{Shape}
use Rattle.disk_model.specs.Types.{Files, Meaning, Leaves, OnlyFile, Settles}
use Rattle.disk_model.specs.declared.disk.File.TheVariants.{Data}
use Rattle.disk_model.proofs.Lemmas.{only_weaker, settles_then, settles_so, leaves_then, leaves_so}
use Rattle.page_store.specs.Types.{HasPages, copies_of, after, AsLong, IsShut, IsUnfinished, Leads, WholeOrNot, Answers, IsCopied, IsOpened, IsPlaced, RawPage, PageFault, DeviceFault, BadPage, NoMemory}
use Rattle.page_store.proofs.Stages.{own_copies, same_pages}

pub settles_lead : {D : Type 0} (meaning : Meaning D) (old new : D) (shape : Shape) (pages : ℕ → List ℕ) → Settles meaning old new Data (AsLong (meaning.files old).data_bytes (IsShut shape pages)) → Leads meaning old new shape pages
settles_lead meaning old new shape pages is = record {
  store = record { settled = is.settled; file = is.holds.is };
  long = is.holds.long;
  log_stays = ap (λ (f : Files). f.log_bytes) is.other;
  images = λ image at. only_weaker meaning old Data (λ (c : List ℕ). c ≡ (meaning.files new).data_bytes) (IsShut shape pages) (λ c same. shut_as c same is.holds.is) image (is.images image at);
}
  where
    shut_as : (c : List ℕ) → c ≡ (meaning.files new).data_bytes → IsShut shape pages (meaning.files new).data_bytes → IsShut shape pages c
    shut_as c same holds = subst (IsShut shape pages) (sym same) holds

-- in weaker words, and as long as the file before
so_long : (a : List ℕ) (P Q : List ℕ → Type 0) (c : List ℕ) → (P c → Q c) → AsLong a P c → AsLong a Q c
so_long a P Q c f is = record { long = is.long; is = f is.is }

long_then : (a b : List ℕ) (P Q : List ℕ → Type 0) (c : List ℕ) → length b ≡ length a → (P c → Q c) → AsLong b P c → AsLong a Q c
long_then a b P Q c same f is = record { long = is.long ∙ same; is = f is.is }

-- one step after another, each in a file as long as before
module _ {D : Type 0} (meaning : Meaning D) (d0 d1 d2 : D) (Q : List ℕ → Type 0) (first : Settles meaning d0 d1 Data (AsLong (meaning.files d0).data_bytes Q)) where
  abbrev b0 : List ℕ
  b0 = (meaning.files d0).data_bytes

  abbrev b1 : List ℕ
  b1 = (meaning.files d1).data_bytes

  pub settles_long : (R : List ℕ → Type 0) → Settles meaning d1 d2 Data (AsLong b1 R) → Settles meaning d0 d2 Data (AsLong b0 R)
  settles_long R second =
      settles_so meaning Data d0 d2 (AsLong b1 R) (AsLong b0 R) (settles_then meaning Data d0 d1 d2 (AsLong b0 Q) first (AsLong b1 R) second)
      (λ is. long_then b0 b1 R R (meaning.files d2).data_bytes first.holds.long (λ h. h) is)

  pub leaves_long : (P T : List ℕ → Type 0) → Leaves meaning d0 d1 (OnlyFile meaning d0 Data (AsLong b0 P)) → Leaves meaning d1 d2 (OnlyFile meaning d1 Data (AsLong b1 T)) → ((b : List ℕ) → T b → P b) → Leaves meaning d0 d2 (OnlyFile meaning d0 Data (AsLong b0 P))
  leaves_long P T so_far leaves f =
      leaves_then meaning Data d0 d1 d2 (AsLong b0 Q) first (AsLong b0 P) (AsLong b1 T) so_far leaves (λ b is. long_then b0 b1 T P b first.holds.long (f b) is)

module _ {D : Type 0} (meaning : Meaning D) (shape : Shape) (pages : ℕ → List ℕ) (batch : List RawPage) where
  abbrev P : List ℕ → Type 0
  P = WholeOrNot shape pages batch

  abbrev After : List ℕ → Type 0
  After = HasPages shape (after batch pages)

  -- a file with this, as long as that of the disk
  abbrev Like : D → (List ℕ → Type 0) → List ℕ → Type 0
  Like d Q = AsLong (meaning.files d).data_bytes Q

  module _ (d0 d1 : D) (leaves1 : Leaves meaning d0 d1 (OnlyFile meaning d0 Data (Like d0 (IsShut shape pages)))) where
    pub first_leaves : Leaves meaning d0 d1 (OnlyFile meaning d0 Data (Like d0 P))
    first_leaves = leaves_so meaning Data d0 d1 (Like d0 P) (Like d0 (IsShut shape pages)) leaves1 (λ b is. so_long (meaning.files d0).data_bytes (IsShut shape pages) P b (λ h. inl h.has) is)

    module _ (settles1 : Settles meaning d0 d1 Data (Like d0 (IsCopied shape pages batch))) (d2 : D) (leaves2 : Leaves meaning d1 d2 (OnlyFile meaning d1 Data (Like d1 P))) where
      pub second_leaves : Leaves meaning d0 d2 (OnlyFile meaning d0 Data (Like d0 P))
      second_leaves = leaves_long meaning d0 d1 d2 (IsCopied shape pages batch) settles1 P P first_leaves leaves2 (λ b is. is)

      module _ (settles2 : Settles meaning d1 d2 Data (Like d1 (IsOpened shape pages batch))) (d3 : D) (leaves3 : Leaves meaning d2 d3 (OnlyFile meaning d2 Data (Like d2 After))) where
        so_far2 : Settles meaning d0 d2 Data (Like d0 (IsOpened shape pages batch))
        so_far2 = settles_long meaning d0 d1 d2 (IsCopied shape pages batch) settles1 (IsOpened shape pages batch) settles2

        pub third_leaves : Leaves meaning d0 d3 (OnlyFile meaning d0 Data (Like d0 P))
        third_leaves = leaves_long meaning d0 d2 d3 (IsOpened shape pages batch) so_far2 P After second_leaves leaves3 (λ b is. inr is)

        module _ (settles3 : Settles meaning d2 d3 Data (Like d2 (IsPlaced shape pages batch))) (d4 : D) where
          so_far3 : Settles meaning d0 d3 Data (Like d0 (IsPlaced shape pages batch))
          so_far3 = settles_long meaning d0 d2 d3 (IsOpened shape pages batch) so_far2 (IsPlaced shape pages batch) settles3

          pub fourth_leaves : Leaves meaning d3 d4 (OnlyFile meaning d3 Data (Like d3 After)) → Leaves meaning d0 d4 (OnlyFile meaning d0 Data (Like d0 P))
          fourth_leaves leaves4 = leaves_long meaning d0 d3 d4 (IsPlaced shape pages batch) so_far3 P After third_leaves leaves4 (λ b is. inr is)

          pub all_lead : Settles meaning d3 d4 Data (Like d3 (IsShut shape (after batch pages))) → Leads meaning d0 d4 shape (after batch pages)
          all_lead settles4 = settles_lead meaning d0 d4 shape (after batch pages) (settles_long meaning d0 d3 d4 (IsPlaced shape pages batch) so_far3 (IsShut shape (after batch pages)) settles4)

-- a batch that an opening finishes
module _ {D : Type 0} (meaning : Meaning D) (shape : Shape) (pages : ℕ → List ℕ) (d0 : D) (blocks : List ℕ) (was : IsUnfinished shape pages blocks (meaning.files d0).data_bytes) where
  abbrev old : List ℕ
  old = (meaning.files d0).data_bytes

  pub opened_now : IsOpened shape pages (copies_of old) old
  opened_now = own_copies shape pages old was.has was.one

  abbrev Again : List ℕ → Type 0
  Again = HasPages shape (after (copies_of old) pages)

  module _ (d1 : D) (leaves1 : Leaves meaning d0 d1 (OnlyFile meaning d0 Data (AsLong old Again))) where
    pub placed_leaves : Leaves meaning d0 d1 (OnlyFile meaning d0 Data (AsLong old (HasPages shape pages)))
    placed_leaves = leaves_so meaning Data d0 d1 (AsLong old (HasPages shape pages)) (AsLong old Again) leaves1 (λ c is. so_long old Again (HasPages shape pages) c (λ h. same_pages shape pages old c was.has was.one h) is)

    module _ (settles1 : Settles meaning d0 d1 Data (AsLong old (IsPlaced shape pages (copies_of old)))) (d2 : D) where
      abbrev mid : List ℕ
      mid = (meaning.files d1).data_bytes

      pub closed_leaves : Leaves meaning d1 d2 (OnlyFile meaning d1 Data (AsLong mid Again)) → Leaves meaning d0 d2 (OnlyFile meaning d0 Data (AsLong old (HasPages shape pages)))
      closed_leaves leaves2 = leaves_long meaning d0 d1 d2 (IsPlaced shape pages (copies_of old)) settles1 (HasPages shape pages) Again placed_leaves leaves2 (λ c is. same_pages shape pages old c was.has was.one is)

      pub closed_settles : Settles meaning d1 d2 Data (AsLong mid (IsShut shape (after (copies_of old) pages))) → Settles meaning d0 d2 Data (AsLong old (IsShut shape pages))
      closed_settles settles2 =
          let new = (meaning.files d2).data_bytes in
          settles_so meaning Data d0 d2 (AsLong old (IsShut shape (after (copies_of old) pages))) (AsLong old (IsShut shape pages))
          (settles_long meaning d0 d1 d2 (IsPlaced shape pages (copies_of old)) settles1 (IsShut shape (after (copies_of old) pages)) settles2)
          (λ is. so_long old (IsShut shape (after (copies_of old) pages)) (IsShut shape pages) new (λ h. record { has = same_pages shape pages old new was.has was.one h.has; shut = h.shut }) is)

-- a fault is answered as it was
pub fault_answers : {A B : Type 0} (fault : PageFault) (P : A → Type 0) (Q : B → Type 0) → Answers (Err fault) P → Answers (Err fault) Q
fault_answers DeviceFault P Q is = tt
fault_answers (BadPage dba) P Q is = is
fault_answers NoMemory P Q is = is
