-- What holds of each image so far, and what each call keeps, holds at each moment.
use Rattle.std.proofs.Common.{◌≡◌, ⊎_elim, ℕ, ◌≤◌, subst, sym, arith, Result, Ok, Err, OnOk, OnErr, ◌↔◌}
use Rattle.disk_model.specs.Types.{Files, content, put, TornFile, Meaning, Now, SameImages, Elapses, Leaves, Always, File}
use Rattle.disk_model.proofs.Going.{started, goes_on}

module _ {D : Type 0} (meaning : Meaning D) (since : ℕ) where
  -- a run of calls that leave only what has P
  pub always_run : (old new : D) (P : ℕ → Files → Type 0) (Q : Files → Type 0) → Always meaning since old P → Leaves meaning old new Q → ((m : ℕ) (image : Files) → meaning.clock old ≤ m → Q image → P m image) → Always meaning since new P
  always_run old new P Q so_far leaves keeps m image from to is =
      ⊎_elim (λ was. so_far m image from (omega (arith, was.0)) was.1) (λ now. keeps m image now.0 now.1) (leaves.each m image to is)

  -- a run that leaves what it found
  pub always_same : (old new : D) (P : ℕ → Files → Type 0) → since ≤ meaning.clock old → Always meaning since old P → Leaves meaning old new (Now meaning old) → ((m : ℕ) (image : Files) → meaning.clock old ≤ m → P (meaning.clock old) image → P m image) → Always meaning since new P
  always_same old new P began so_far leaves later =
      always_run old new P (Now meaning old) so_far leaves (λ m image le is. later m image le (so_far (meaning.clock old) image began (omega arith) is))

module _ {D : Type 0} (meaning : Meaning D) (since : ℕ) (old new : D) (P : Files → Type 0) (began : since ≤ meaning.clock old) (so_far : Always meaning since old (λ _. P)) (time : Elapses meaning old new) where
  here : (image : Files) → Now meaning old image → P image
  here image is = so_far (meaning.clock old) image began (omega arith) is

  call : ((image : Files) → Now meaning new image → P image) → Always meaning since new (λ _. P)
  call now = always_run meaning since old new (λ _. P) P so_far (goes_on meaning old old new P (started meaning old P here) time now) (λ _ _ _ is. is)

  -- a write each of whose outcomes keeps P
  pub always_write : (file : File) (at n : ℕ) → ((image : Files) → Now meaning new image → (was : Files) × Now meaning old was × TornFile file at n was image)
      → ((was image : Files) → P was → TornFile file at n was image → P image) → Always meaning since new (λ _. P)
  always_write file at n crash keeps = call (λ image is. let from = crash image is in keeps from.0 image (here from.0 from.1) from.2)

  -- a sync, where P holds of an image of which this file is as it reads
  pub always_sync : {T E : Type 0} (file : File) (result : Result T E)
      → OnOk result ((image : Files) → Now meaning new image ↔ ((was : Files) × Now meaning old was × (image ≡ put file (content file (meaning.files old)) was)))
      → ((image : Files) → OnErr result (Now meaning new image → Now meaning old image))
      → ((was : Files) → P was → P (put file (content file (meaning.files old)) was)) → Always meaning since new (λ _. P)
  always_sync file (Err e) durable crash keeps = call (λ image is. here image (crash image is))
  always_sync file (Ok x) durable crash keeps = call (λ image is. let from = (durable image).0 is in subst P (sym from.2) (keeps from.0 (here from.0 from.1)))

  -- a read or a length
  pub always_look : SameImages meaning old new → Always meaning since new (λ _. P)
  always_look same = call (λ image is. here image ((same image).0 is))
