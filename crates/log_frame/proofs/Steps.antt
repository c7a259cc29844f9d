-- Runs that change the log alone.
use Rattle.std.proofs.Common.{◌≡◌, ℕ, List, refl, sym, ◌∙◌, ap, subst}
use Rattle.disk_model.specs.Types.{Files, Meaning, Leaves, OnlyFile, IsSettled, IsPut}
use Rattle.disk_model.specs.declared.disk.File.TheVariants.{Log}
use Rattle.disk_model.proofs.Lemmas.{weaker, only_weaker, only_through, then_only}
use Rattle.log_frame.specs.Types.{Settles}

module _ {D : Type 0} (meaning : Meaning D) where
  -- before any call
  pub stays : (old : D) (Q : List ℕ → Type 0) → IsSettled meaning old Log → Q (meaning.files old).log_bytes → Settles meaning old old Q
  stays old Q settled holds = record {
    settled = settled;
    data_stays = refl;
    holds = holds;
    images = λ image is. record { was = image; before = is; rest = refl; holds = settled.durable image is };
  }

  -- a write of the log, after what changed the log alone
  pub then_put : (old mid new : D) (Q R : List ℕ → Type 0) (bytes : List ℕ) → Settles meaning old mid Q → IsPut meaning mid new Log bytes → R bytes → Settles meaning old new R
  then_put old mid new Q R bytes first is_put holds =
      let here : (meaning.files new).log_bytes ≡ bytes = ap (λ (f : Files). f.log_bytes) is_put.files in
      record {
        settled = is_put.settled;
        data_stays = ap (λ (f : Files). f.data_bytes) is_put.files ∙ first.data_stays;
        holds = subst R (sym here) holds;
        images = λ image is. only_through meaning old mid Log (λ (b : List ℕ). b ≡ (meaning.files mid).log_bytes) (λ (b : List ℕ). b ≡ bytes) (λ (b : List ℕ). b ≡ (meaning.files new).log_bytes) first.images (λ b h. h ∙ sym here) image (is_put.images image is);
      }

  -- a run after another
  pub then_run : (old mid new : D) (Q T P : List ℕ → Type 0) → Settles meaning old mid Q → Leaves meaning old mid (OnlyFile meaning old Log P) → Leaves meaning mid new (OnlyFile meaning mid Log T) → ((b : List ℕ) → T b → P b) → Leaves meaning old new (OnlyFile meaning old Log P)
  then_run old mid new Q T P first so_far leaves f = then_only meaning old mid Log new (λ (b : List ℕ). b ≡ (meaning.files mid).log_bytes) T P so_far first.images leaves f

  pub only_run : (old new : D) (T P : List ℕ → Type 0) → Leaves meaning old new (OnlyFile meaning old Log T) → ((b : List ℕ) → T b → P b) → Leaves meaning old new (OnlyFile meaning old Log P)
  only_run old new T P leaves f = weaker meaning old new (OnlyFile meaning old Log T) (OnlyFile meaning old Log P) leaves (only_weaker meaning old Log T P f)
