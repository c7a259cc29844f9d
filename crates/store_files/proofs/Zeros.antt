-- Zeros that are written in pieces, over plain disks.
use Rattle.std.proofs.Common.{◌≡◌, ℕ, ◌+◌, ◌-◌, ◌≤◌, List, [], ◌++◌, length, take, replicate, sym, ◌∙◌, ap, subst, arith}
use Rattle.seg_words.proofs.Lemmas.{length-replicate, replicate-append-replicate, take-replicate}
use Rattle.disk_model.specs.Types.{Files, put, written, Torn, TornFile, Meaning, Now, Elapses, IsSettled, torn_same, torn_written}
use Rattle.disk_model.specs.declared.disk.File.TheVariants.{Data}
use Rattle.disk_model.proofs.Lemmas.{So, so_started, torn_wider, next_write, next_made}

module _ {D : Type 0} (meaning : Meaning D) (d0 : D) (total : ℕ) where
  abbrev pub old : List ℕ
  old = (meaning.files d0).data_bytes

  -- so many zeros were written
  pub record Zeroed (done : ℕ) (d : D) : Type 0 where
    pub so : So meaning d0 d Data (Torn 0 total (meaning.files d0).data_bytes) (Torn 0 done (meaning.files d0).data_bytes)
    pub made : meaning.files d ≡ put Data (written (meaning.files d0).data_bytes 0 (replicate done 0)) (meaning.files d0)

  pub zero_start : IsSettled meaning d0 Data → Zeroed 0 d0
  zero_start settled = record {
    so = so_started meaning d0 Data (Torn 0 total (meaning.files d0).data_bytes) (Torn 0 0 (meaning.files d0).data_bytes)
        (λ image is. subst (Torn 0 0 (meaning.files d0).data_bytes) (sym (settled.durable image is)) (torn_same 0 0 (meaning.files d0).data_bytes))
        (λ b. torn_wider 0 0 total (meaning.files d0).data_bytes b (omega arith));
    made = ap (λ (n : ℕ). put Data (replicate n 0 ++ [] ++ (meaning.files d0).data_bytes) (meaning.files d0)) none;
  }
    where
      none : 0 ≡ 0 - length (meaning.files d0).data_bytes
      none = omega arith

  -- one piece more, whatever the write answered
  pub zero_torn : (done size : ℕ) (d1 d2 : D) (bytes : List ℕ) → bytes ≡ replicate size 0 → done + size ≤ total → Zeroed done d1 → Elapses meaning d1 d2
      → ((image : Files) → Now meaning d2 image → (was : Files) × Now meaning d1 was × TornFile Data done (length bytes) was image)
      → So meaning d0 d2 Data (Torn 0 total (meaning.files d0).data_bytes) (Torn 0 (done + size) (meaning.files d0).data_bytes)
  zero_torn done size d1 d2 bytes same le zeroed time crash =
      let long : length bytes ≡ size = ap length same ∙ length-replicate {A = ℕ} size 0 in
      let torn : (image : Files) → Now meaning d2 image → (was : Files) × Now meaning d1 was × TornFile Data done size was image = λ image is. let from = crash image is in (from.0, from.1, subst (λ (n : ℕ). TornFile Data done n from.0 image) long from.2) in
      next_write meaning d0 Data 0 total d1 d2 done size done le (omega arith) zeroed.so time torn

  pub zero_more : (done size : ℕ) (d1 d2 : D) (bytes : List ℕ) → bytes ≡ replicate size 0 → done + size ≤ total → Zeroed done d1 → Elapses meaning d1 d2
      → ((image : Files) → Now meaning d2 image → (was : Files) × Now meaning d1 was × TornFile Data done (length bytes) was image)
      → meaning.files d2 ≡ put Data (written (meaning.files d1).data_bytes done bytes) (meaning.files d1) → Zeroed (done + size) d2
  zero_more done size d1 d2 bytes same le zeroed time crash made = record {
    so = zero_torn done size d1 d2 bytes same le zeroed time crash;
    made =
        next_made meaning d0 Data 0 total d1 d2 (replicate done 0) bytes done (omega (arith, length-replicate {A = ℕ} done 0)) zeroed.made made
        ∙ ap (λ (l : List ℕ). put Data (written (meaning.files d0).data_bytes 0 l) (meaning.files d0)) (ap (λ (l : List ℕ). replicate done 0 ++ l) same ∙ replicate-append-replicate done size 0);
  }

  -- zeros of a buffer
  pub zeros_of : (size most : ℕ) → size ≤ most → take {A = ℕ} size (replicate most 0) ≡ replicate size 0
  zeros_of size most le = take-replicate {X = ℕ} size most 0 le

  -- what a read gives then is torn within them
  pub torn_zeros : (d : D) → Zeroed total d → Torn 0 total (meaning.files d0).data_bytes (meaning.files d).data_bytes
  torn_zeros d zeroed =
      let bytes : List ℕ = replicate total 0 in
      let here : (meaning.files d).data_bytes ≡ written (meaning.files d0).data_bytes 0 bytes = ap (λ (f : Files). f.data_bytes) zeroed.made in
      subst (λ (n : ℕ). Torn 0 n (meaning.files d0).data_bytes (meaning.files d).data_bytes) (length-replicate {A = ℕ} total 0) (subst (Torn 0 (length bytes) (meaning.files d0).data_bytes) (sym here) (torn_written (meaning.files d0).data_bytes bytes 0))
