-- Writes of one file one after the other, and their sync; and such runs one after the other.
use Rattle.std.proofs.Common.{◌≡◌, ℕ, List, length, refl, sym, ◌∙◌, ap, subst, Result, Ok, Err, OnOk, OnErr, ◌↔◌}
use Rattle.disk_model.specs.Types.{Files, content, put, written, Torn, TornFile, Meaning, Now, Elapses, Leaves, Untouched, OnlyFile, IsSettled, IsPut, Settles, torn_written, File}
use Rattle.disk_model.proofs.Going.{started, weaker, then_leaves}
use Rattle.disk_model.proofs.Moments.{on_ok}
use Rattle.disk_model.proofs.OneFile.{So, so_started, so_write, so_sync, synced, only_weaker, only_through, then_only, put_content, content_put, put_put}

-- Writes so far: at each moment a crash left a file with E, and what a read gives now has E and Q.
pub record Running {D : Type 0} (meaning : Meaning D) (start now : D) (file : File) (E Q : List ℕ → Type 0) : Type 0 where
  pub told : meaning.told now
  pub so : So meaning start now file E E
  pub other : meaning.files now ≡ put file (content file (meaning.files now)) (meaning.files start)
  pub reads : E (content file (meaning.files now))
  pub holds : Q (content file (meaning.files now))

module _ {D : Type 0} (meaning : Meaning D) (start : D) (file : File) (E : List ℕ → Type 0) where
  pub run_started : (Q : List ℕ → Type 0) → IsSettled meaning start file → E (content file (meaning.files start)) → Q (content file (meaning.files start)) → Running meaning start start file E Q
  run_started Q settled reads holds = record {
    told = settled.told;
    so = so_started meaning start file E E (λ image is. subst E (sym (settled.durable image is)) reads) (λ b is. is);
    other = put_content file (meaning.files start);
    reads = reads;
    holds = holds;
  }

  module _ (mid new : D) (Q : List ℕ → Type 0) (at : ℕ) (bytes : List ℕ) (run : Running meaning start mid file E Q) (stays : (b c : List ℕ) → E b → Torn at (length bytes) b c → E c) where
    -- a write, whatever it answered
    pub run_write : Elapses meaning mid new → ((image : Files) → Now meaning new image → (was : Files) × Now meaning mid was × TornFile file at (length bytes) was image) → So meaning start new file E E
    run_write time crash = so_write meaning start file E mid new E E at (length bytes) run.so time crash stays (λ b is. is)

    -- one that was done
    pub run_written : (R : List ℕ → Type 0) → Elapses meaning mid new → ((image : Files) → Now meaning new image → (was : Files) × Now meaning mid was × TornFile file at (length bytes) was image)
        → (meaning.told mid → meaning.told new) → (meaning.told mid → meaning.files new ≡ put file (written (content file (meaning.files mid)) at bytes) (meaning.files mid))
        → R (written (content file (meaning.files mid)) at bytes) → Running meaning start new file E R
    run_written R time crash told made holds =
        let b = content file (meaning.files mid) in
        let c = written b at bytes in
        let is = made run.told in
        let here : content file (meaning.files new) ≡ c = ap (content file) is ∙ content_put file c (meaning.files mid) in
        record {
          told = told run.told;
          so = run_write time crash;
          other = is ∙ ap (put file c) run.other ∙ put_put file c b (meaning.files start) ∙ ap (λ (l : List ℕ). put file l (meaning.files start)) (sym here);
          reads = subst E (sym here) (stays b c run.reads (torn_written b bytes at));
          holds = subst R (sym here) holds;
        }

  -- calls that make no write
  pub run_looked : (mid new : D) (Q : List ℕ → Type 0) → Running meaning start mid file E Q → Untouched meaning mid new → Running meaning start new file E Q
  run_looked mid new Q run look =
      let files = look.files run.told in
      let P : Files → Type 0 = OnlyFile meaning start file E in
      record {
        told = look.told.1 run.told;
        so = record {
          leaves = then_leaves meaning start mid new P run.so.leaves (weaker meaning mid new (Now meaning mid) P look.leaves run.so.images);
          images = λ image is. run.so.images image ((look.images image).0 is);
        };
        other = subst (λ (f : Files). f ≡ put file (content file f) (meaning.files start)) (sym files) run.other;
        reads = subst (λ (f : Files). E (content file f)) (sym files) run.reads;
        holds = subst (λ (f : Files). Q (content file f)) (sym files) run.holds;
      }

  module _ {T F : Type 0} (mid new : D) (Q : List ℕ → Type 0) (r : Result T F) (run : Running meaning start mid file E Q)
      (durable : meaning.told mid → OnOk r ((image : Files) → Now meaning new image ↔ ((was : Files) × Now meaning mid was × (image ≡ put file (content file (meaning.files mid)) was)))) where
    -- a sync, whatever it answered
    pub run_synced : Elapses meaning mid new → ((image : Files) → OnErr r (Now meaning new image → Now meaning mid image)) → Leaves meaning start new (OnlyFile meaning start file E)
    run_synced time crash = (so_sync meaning start file E mid new E r run.so time (durable run.told) crash run.reads (λ b is. is)).leaves

    -- one that was done
    pub run_settles : (meaning.told mid → meaning.told new) → (meaning.told mid → meaning.files new ≡ meaning.files mid) → OnOk r (Settles meaning start new file (λ (b : List ℕ). E b × Q b))
    run_settles told same = on_ok r (λ all.
        let files = same run.told in
        let P : List ℕ → Type 0 = λ b. b ≡ content file (meaning.files mid) in
        let R : List ℕ → Type 0 = λ b. b ≡ content file (meaning.files new) in
        let images = λ (image : Files) (is : Now meaning new image). only_weaker meaning start file P R (λ b h. h ∙ sym (ap (content file) files)) image (synced meaning start file mid new E run.so.images all image is) in
        record {
          settled = record { told = told run.told; durable = λ image is. (images image is).holds };
          other = subst (λ (f : Files). f ≡ put file (content file f) (meaning.files start)) (sym files) run.other;
          holds = subst (λ (f : Files). E (content file f) × Q (content file f)) (sym files) (run.reads, run.holds);
          images = images;
        }) (durable run.told)

module _ {D : Type 0} (meaning : Meaning D) (file : File) where
  -- before any call
  pub settles_now : (start : D) (Q : List ℕ → Type 0) → IsSettled meaning start file → Q (content file (meaning.files start)) → Settles meaning start start file Q
  settles_now start Q settled holds = record {
    settled = settled;
    other = put_content file (meaning.files start);
    holds = holds;
    images = λ image is. record { was = image; before = is; rest = put_content file image; holds = settled.durable image is };
  }

  -- a write that is on the disk
  pub put_settles : (old new : D) (bytes : List ℕ) (Q : List ℕ → Type 0) → IsPut meaning old new file bytes → Q bytes → Settles meaning old new file Q
  put_settles old new bytes Q is holds =
      let here : content file (meaning.files new) ≡ bytes = ap (content file) is.files ∙ content_put file bytes (meaning.files old) in
      record {
        settled = is.settled;
        other = is.files ∙ ap (λ (l : List ℕ). put file l (meaning.files old)) (sym here);
        holds = subst Q (sym here) holds;
        images = λ image at. only_weaker meaning old file (λ (b : List ℕ). b ≡ bytes) (λ (b : List ℕ). b ≡ content file (meaning.files new)) (λ b h. h ∙ sym here) image (is.images image at);
      }

  -- what it left, in weaker words
  pub settles_so : (old new : D) (Q R : List ℕ → Type 0) → Settles meaning old new file Q → (Q (content file (meaning.files new)) → R (content file (meaning.files new))) → Settles meaning old new file R
  settles_so old new Q R is f = record { settled = is.settled; other = is.other; holds = f is.holds; images = is.images }

  module _ (old mid new : D) (Q : List ℕ → Type 0) (first : Settles meaning old mid file Q) where
    -- one run after another
    pub settles_then : (R : List ℕ → Type 0) → Settles meaning mid new file R → Settles meaning old new file R
    settles_then R second =
        let c = content file (meaning.files new) in
        record {
          settled = second.settled;
          other = second.other ∙ ap (put file c) first.other ∙ put_put file c (content file (meaning.files mid)) (meaning.files old);
          holds = second.holds;
          images = λ image is. only_through meaning old mid file (λ (b : List ℕ). b ≡ content file (meaning.files mid)) (λ (b : List ℕ). b ≡ c) (λ (b : List ℕ). b ≡ c) first.images (λ b h. h) image (second.images image is);
        }

    pub leaves_then : (P T : List ℕ → Type 0) → Leaves meaning old mid (OnlyFile meaning old file P) → Leaves meaning mid new (OnlyFile meaning mid file T) → ((b : List ℕ) → T b → P b) → Leaves meaning old new (OnlyFile meaning old file P)
    leaves_then P T so_far leaves f = then_only meaning old mid file new (λ (b : List ℕ). b ≡ content file (meaning.files mid)) T P so_far first.images leaves f

  pub leaves_so : (old new : D) (P T : List ℕ → Type 0) → Leaves meaning old new (OnlyFile meaning old file T) → ((b : List ℕ) → T b → P b) → Leaves meaning old new (OnlyFile meaning old file P)
  leaves_so old new P T leaves f = weaker meaning old new (OnlyFile meaning old file T) (OnlyFile meaning old file P) leaves (only_weaker meaning old file T P f)

  -- no call at all
  pub leaves_now : (start : D) (P : List ℕ → Type 0) → IsSettled meaning start file → P (content file (meaning.files start)) → Leaves meaning start start (OnlyFile meaning start file P)
  leaves_now start P settled holds =
      started meaning start (OnlyFile meaning start file P) (λ image is. record { was = image; before = is; rest = put_content file image; holds = subst P (sym (settled.durable image is)) holds })

  -- calls that make no write
  pub settles_looked : (old new : D) (Q : List ℕ → Type 0) → IsSettled meaning old file → Untouched meaning old new → Q (content file (meaning.files old)) → Settles meaning old new file Q
  settles_looked old new Q settled look holds =
      let files = look.files settled.told in
      let was = λ (image : Files) (is : Now meaning new image). settled.durable image ((look.images image).0 is) ∙ ap (content file) (sym files) in
      record {
        settled = record { told = look.told.1 settled.told; durable = was };
        other = subst (λ (f : Files). f ≡ put file (content file f) (meaning.files old)) (sym files) (put_content file (meaning.files old));
        holds = subst (λ (f : Files). Q (content file f)) (sym files) holds;
        images = λ image is. record { was = image; before = (look.images image).0 is; rest = put_content file image; holds = was image is };
      }

  pub leaves_looked : (old new : D) (P : List ℕ → Type 0) → IsSettled meaning old file → Untouched meaning old new → P (content file (meaning.files old)) → Leaves meaning old new (OnlyFile meaning old file P)
  leaves_looked old new P settled look holds =
      weaker meaning old new (Now meaning old) (OnlyFile meaning old file P) look.leaves (λ image is. record { was = image; before = is; rest = put_content file image; holds = subst P (sym (settled.durable image is)) holds })
