-- What calls that write the data file alone leave of the log.
use Rattle.std.proofs.Common.{◌≡◌, ℕ, ◌≤◌, List, refl, sym, ◌∙◌, ap, arith, ⊎_elim, Result, Ok, Err, OnOk, OnErr, ◌↔◌}
use Rattle.disk_model.specs.Types.{Files, content, put, TornFile, Meaning, Now, Elapses, Leaves, Untouched, IsSettled}
use Rattle.disk_model.specs.declared.disk.File.TheVariants.{Data, Log}
use Rattle.disk_model.proofs.Going.{started, goes_on, weaker}
use Rattle.disk_model.proofs.OneFile.{then_only, put_content}
use Rattle.page_store.specs.Types.{OnlyData, LeavesLog}

module _ {D : Type 0} (meaning : Meaning D) where
  abbrev Any : List ℕ → Type 0
  Any bytes = Unit {0}

  -- what a crash left at each moment it leaves now
  pub left_now : (old new : D) (P : Files → Type 0) → Leaves meaning old new P → (image : Files) → Now meaning new image → P image
  left_now old new P leaves image is = ⊎_elim (λ was. absurd (omega (arith, was.0, leaves.later))) (λ now. now.1) (leaves.each (meaning.clock new) image (omega arith) is)

  here : (old : D) (image : Files) → Now meaning old image → OnlyData meaning old image
  here old image is = record { was = image; before = is; rest = put_content Data image; holds = tt }

  -- before the first call
  pub log_started : (old : D) → LeavesLog meaning old old
  log_started old = record { told = (λ is. is, λ is. is); log_stays = λ told. refl; leaves = λ told. started meaning old (OnlyData meaning old) (here old) }

  -- one run after another
  pub log_then : (old mid new : D) → LeavesLog meaning old mid → LeavesLog meaning mid new → LeavesLog meaning old new
  log_then old mid new first second = record {
    told = (λ is. first.told.0 (second.told.0 is), λ is. second.told.1 (first.told.1 is));
    log_stays = λ told. second.log_stays (first.told.1 told) ∙ first.log_stays told;
    leaves = λ told. then_only meaning old mid Data new Any Any Any (first.leaves told) (left_now old mid (OnlyData meaning old) (first.leaves told)) (second.leaves (first.told.1 told)) (λ bytes is. is);
  }

  -- calls that make no write
  pub log_looked : (old new : D) → Untouched meaning old new → LeavesLog meaning old new
  log_looked old new look = record {
    told = look.told;
    log_stays = λ told. ap (content Log) (look.files told);
    leaves = λ told. weaker meaning old new (Now meaning old) (OnlyData meaning old) look.leaves (here old);
  }

  -- a write, whatever it answered
  pub log_written : (old new : D) (at n : ℕ) → Elapses meaning old new → (meaning.told new ↔ meaning.told old)
      → ((image : Files) → Now meaning new image → (was : Files) × Now meaning old was × TornFile Data at n was image)
      → (meaning.told old → TornFile Data at n (meaning.files old) (meaning.files new)) → LeavesLog meaning old new
  log_written old new at n time told crash torn = record {
    told = told;
    log_stays = λ is. ap (content Log) (torn is).other;
    leaves = λ is. goes_on meaning old old new (OnlyData meaning old) (started meaning old (OnlyData meaning old) (here old)) time
        (λ image now. let from = crash image now in record { was = from.0; before = from.1; rest = from.2.other; holds = tt });
  }

  -- a sync, whatever it answered
  pub log_synced : {T E : Type 0} (old new : D) (r : Result T E) → Elapses meaning old new → (meaning.told new ↔ meaning.told old)
      → (meaning.told old → OnOk r ((image : Files) → Now meaning new image ↔ ((was : Files) × Now meaning old was × (image ≡ put Data (content Data (meaning.files old)) was))))
      → ((image : Files) → OnErr r (Now meaning new image → Now meaning old image))
      → (meaning.told old → meaning.files new ≡ meaning.files old) → LeavesLog meaning old new
  log_synced old new r time told durable crash same = record {
    told = told;
    log_stays = λ is. ap (content Log) (same is);
    leaves = λ is. goes_on meaning old old new (OnlyData meaning old) (started meaning old (OnlyData meaning old) (here old)) time (now r (durable is) crash);
  }
    where
      now : {T E : Type 0} (r : Result T E) → OnOk r ((image : Files) → Now meaning new image ↔ ((was : Files) × Now meaning old was × (image ≡ put Data (content Data (meaning.files old)) was)))
          → ((image : Files) → OnErr r (Now meaning new image → Now meaning old image)) → (image : Files) → Now meaning new image → OnlyData meaning old image
      now (Ok x) durable crash image is = let from = (durable image).0 is in record { was = from.0; before = from.1; rest = from.2 ∙ ap (λ (l : List ℕ). put Data l from.0) (sym (ap (content Data) from.2)); holds = tt }
      now (Err e) durable crash image is = here old image (crash image is)

  module _ (old new : D) (is : LeavesLog meaning old new) where
    -- at each moment since, a crash leaves the log of an image of the disk as it was
    pub image_log : meaning.told old → (m : ℕ) (image : Files) → meaning.clock old ≤ m → m ≤ meaning.clock new → meaning.crash_at new m image
        → (was : Files) × Now meaning old was × (image.log_bytes ≡ was.log_bytes)
    image_log told m image since upto left = ⊎_elim (λ was. absurd (omega (arith, was.0, since))) (λ now. (now.1.was, now.1.before, ap (content Log) now.1.rest)) ((is.leaves told).each m image upto left)

    -- a log that is on the disk stays there
    pub log_settled : IsSettled meaning old Log → IsSettled meaning new Log
    log_settled settled = record {
      told = is.told.1 settled.told;
      durable = λ image now.
          let left = left_now old new (OnlyData meaning old) (is.leaves settled.told) image now in
          ap (content Log) left.rest ∙ settled.durable left.was left.before ∙ sym (is.log_stays settled.told);
    }
