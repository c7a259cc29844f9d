-- No file in memory, nor any that a crash leaves, is longer than 2^64 - 1 bytes.
use Rattle.std.specs.Prelude.{◌≡◌, ℕ, ◌+◌, ◌-◌, ◌^◌, ◌≤◌, List, [], ◌∷◌, length, filter, Bool, true, false, refl}
use Rattle.seg_words.specs.Types.{list_all}
use Rattle.std.proofs.Common.{sym, subst, arith, ◌&&◌, inl, inr, leb-true}
use Rattle.disk_model.specs.declared.disk.File.{File}
use Rattle.disk_model.specs.declared.disk.File.TheVariants.{Data, Log}
use Rattle.disk_model.specs.declared.memory.Change.{Change}
use Rattle.disk_model.specs.declared.memory.Change.TheVariants.{Write, Broken, Sync}
use Rattle.disk_model.specs.declared.memory.DatedChange.{DatedChange}
use Rattle.disk_model.specs.declared.memory.Memory.{Memory}
use Rattle.disk_model.specs.Files.{Files, content, put, TornFile, AreShort}
use Rattle.disk_model.specs.History.{seen_step, IsLeftBy, IsLeftAfter, is_by, fits, is_in_range}
use Rattle.disk_model.specs.Memory.{first_files, memory_crash_at}
use Rattle.disk_model.specs.AsRead.{torn_file_written}

-- a write of a range that fits
torn_short : (file : File) (at n : ℕ) (was image : Files) → at + n ≤ 2 ^ 64 - 1 → AreShort was → TornFile file at n was image → AreShort image
torn_short Data at n was image le short torn = record {
  data_short = omega (arith, torn.torn.no_longer, short.data_short);
  log_short = subst (λ (f : Files). length f.log_bytes ≤ 2 ^ 64 - 1) (sym torn.other) short.log_short;
}
torn_short Log at n was image le short torn = record {
  data_short = subst (λ (f : Files). length f.data_bytes ≤ 2 ^ 64 - 1) (sym torn.other) short.data_short;
  log_short = omega (arith, torn.torn.no_longer, short.log_short);
}

put_short : (file : File) (files was : Files) → AreShort files → AreShort was → AreShort (put file (content file files) was)
put_short Data files was first second = record { data_short = first.data_short; log_short = second.log_short }
put_short Log files was first second = record { data_short = second.data_short; log_short = first.log_short }

step_short : (change : Change) (seen : Files) → fits change ≡ true → AreShort seen → AreShort (seen_step change seen)
step_short (Write file offset bytes) seen in_range short = torn_short file offset (length bytes) seen _ (leb-true (offset + length bytes) (2 ^ 64 - 1) in_range) short (torn_file_written file offset bytes seen)
step_short (Broken file offset n) seen in_range short = short
step_short (Sync file) seen in_range short = short

left_short : (change : Change) (seen : Files) (left : Files → Type 0) → fits change ≡ true → AreShort seen → ((was : Files) → left was → AreShort was) → (image : Files) → IsLeftBy change seen left image → AreShort image
left_short (Write file offset bytes) seen left in_range short all image is = torn_short file offset (length bytes) is.0 image (leb-true (offset + length bytes) (2 ^ 64 - 1) in_range) (all is.0 is.1) is.2
left_short (Broken file offset n) seen left in_range short all image is = torn_short file offset n is.0 image (leb-true (offset + n) (2 ^ 64 - 1) in_range) (all is.0 is.1) is.2
left_short (Sync file) seen left in_range short all image is = subst AreShort (sym is.2) (put_short file seen is.0 short (all is.0 is.1))

both_true : (a b : Bool) → (a && b) ≡ true → (a ≡ true) × (b ≡ true)
both_true true b h = (refl, h)
both_true false b h = absurd cc

after_short : (changes : List DatedChange) (seen : Files) (left : Files → Type 0) → list_all is_in_range changes ≡ true → AreShort seen → ((was : Files) → left was → AreShort was) → (image : Files) → IsLeftAfter seen left changes image → AreShort image
after_short [] seen left in_range short all image is = all image is
after_short (dated ∷ changes) seen left in_range short all image is =
    let h = both_true (is_in_range dated) (list_all is_in_range changes) in_range in
    after_short changes (seen_step dated.change seen) (IsLeftBy dated.change seen left) h.1 (step_short dated.change seen h.0 short) (left_short dated.change seen left h.0 short all) image is

filter_in_range : (p : DatedChange → Bool) (changes : List DatedChange) → list_all is_in_range changes ≡ true → list_all is_in_range (filter p changes) ≡ true
filter_in_range p [] all = refl
filter_in_range p (dated ∷ changes) all =
    let h = both_true (is_in_range dated) (list_all is_in_range changes) all in
    let rest = filter_in_range p changes h.1 in
    grind (arith, h.0, rest)

pub memory_short : (m : Memory) (moment : ℕ) (image : Files) → memory_crash_at m moment image → AreShort image
memory_short m moment image is = elim is [ inl now ↦ at moment now | inr later ↦ at (moment + 1) later.1 ]
  where
    at : (n : ℕ) → IsLeftAfter (first_files m) (λ (was : Files). was ≡ first_files m) (filter (is_by n) m.changes.items) image → AreShort image
    at n left = after_short (filter (is_by n) m.changes.items) (first_files m) (λ (was : Files). was ≡ first_files m) (filter_in_range (is_by n) m.changes.items m.in_range) m.first_short (λ was same. subst AreShort (sym same) m.first_short) image left
