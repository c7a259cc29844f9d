-- What a disk that stops leaves.
use Rattle.std.proofs.Common.{◌≡◌, ℕ, ◌+◌, ◌-◌, ◌^◌, ◌≤◌, min, sym, subst, arith, ◌↔◌}
use Rattle.disk_model.specs.Types.{Files, TornFile, Meaning, Now, SameImages, CanWrite, torn_file_same, stopping_meaning, StopsHere, File, Stopping}

module _ {D : Type 0} (meaning : Meaning D) (in_time : (d : D) → meaning.clock d ≤ 2 ^ 64 - 1) where
  -- now is now inside
  inside : (s : Stopping D) → min ((stopping_meaning meaning).clock s) (meaning.clock s.disk) ≡ meaning.clock s.disk
  inside s = omega (arith, in_time s.disk)

  pub to_inside : (s : Stopping D) (image : Files) → Now (stopping_meaning meaning) s image → Now meaning s.disk image
  to_inside s image is = subst (λ (n : ℕ). meaning.crash_at s.disk n image) (inside s) is

  pub from_inside : (s : Stopping D) (image : Files) → Now meaning s.disk image → Now (stopping_meaning meaning) s image
  from_inside s image is = subst (λ (n : ℕ). meaning.crash_at s.disk n image) (sym (inside s)) is

  -- a write that was failed here
  pub stopped_crash : (old new : Stopping D) (file : File) (at n : ℕ) → StopsHere old new → (image : Files) → Now (stopping_meaning meaning) new image → (was : Files) × Now (stopping_meaning meaning) old was × TornFile file at n was image
  stopped_crash old new file at n stops image is =
      (image, from_inside old image (subst (λ (d : D). Now meaning d image) stops.disk (to_inside new image is)), torn_file_same file at n image)

  -- the moment of a disk inside, after so many calls that were failed here
  abbrev pub Inside : D → ℕ → Files → Type 0
  Inside d extra image = meaning.crash_at d (min (min (meaning.clock d + extra) (2 ^ 64 - 1)) (meaning.clock d)) image

  pub into : (d : D) (extra : ℕ) (image : Files) → Inside d extra image → Now meaning d image
  into d extra image is = let now : min (min (meaning.clock d + extra) (2 ^ 64 - 1)) (meaning.clock d) ≡ meaning.clock d = omega (arith, in_time d) in subst (λ (n : ℕ). meaning.crash_at d n image) now is

  pub out_of : (d : D) (extra : ℕ) (image : Files) → Now meaning d image → Inside d extra image
  out_of d extra image is = let now : min (min (meaning.clock d + extra) (2 ^ 64 - 1)) (meaning.clock d) ≡ meaning.clock d = omega (arith, in_time d) in subst (λ (n : ℕ). meaning.crash_at d n image) (sym now) is

  -- a write that was passed
  pub passed_crash : (old new : D) (extra : ℕ) (file : File) (at n : ℕ) → ((image : Files) → Now meaning new image → (was : Files) × Now meaning old was × TornFile file at n was image)
      → (image : Files) → Inside new extra image → (was : Files) × Inside old extra was × TornFile file at n was image
  passed_crash old new extra file at n crash image is = let from = crash image (into new extra image is) in (from.0, out_of old extra from.0 from.1, from.2)

  pub passed_same : (old new : D) (extra : ℕ) → SameImages meaning old new → (image : Files) → Inside new extra image ↔ Inside old extra image
  passed_same old new extra same image = (λ is. out_of old extra image ((same image).0 (into new extra image is)), λ is. out_of new extra image ((same image).1 (into old extra image is)))

  pub cannot : (s : Stopping D) (at n : ℕ) → s.extra ≡ 0 → ¬ CanWrite ((stopping_meaning meaning).clock s) at n → ¬ CanWrite (meaning.clock s.disk) at n
  cannot s at n none not_here can = not_here (record { in_time = omega (arith, none, can.in_time); fits = can.fits })
