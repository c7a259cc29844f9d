-- What the sink took, event by event.
use Rattle.std.proofs.Common.{◌≡◌, ◌⊎◌, ℕ, suc, ◌+◌, List, [], ◌∷◌, ◌++◌, length, take, Option, None, Some, refl, sym, ◌∙◌, ap, subst, inl, inr, arith, append_assoc, length-append, take_all}
use Rattle.std.specs.Prelude.{Result, Ok, Err}
use Rattle.seg_words.proofs.Lemmas.{take-append-add}
use Rattle.std.proofs.lemmas.List.{take-append-le}
use Rattle.std.specs.Io.KnownBytes.{Appends}
use Rattle.text_port.specs.Whole.{AppendsPrefix}
use Rattle.text_port.proofs.Pieces.{appends_more}
use Rattle.history_text.specs.declared.entry.Entry.{Entry}
use Rattle.history_text.specs.Lines.{entry_text}
use Rattle.history_model.specs.declared.history.HistoryItem.{HistoryItem}
use Rattle.history_model.specs.declared.history.HistoryItem.TheVariants as item
use Rattle.store_core.specs.declared.fault.StoreFault.{StoreFault}
use Rattle.store_core.specs.declared.fault.StoreFault.TheVariants as faults
use Rattle.session_step.specs.Telling.{Begins, begins_none, begins_one, Ends, ends_none, ends_one}
use Rattle.session_world.specs.declared.fault.RunFault.{RunFault}
use Rattle.session_world.specs.declared.fault.RunFault.TheVariants as stops
use Rattle.session_world.specs.Whole.{text_of, LacksNewest, IsPrinted}
use Rattle.session_world.specs.Telling.{HasHanded, HandsNothing, HandsOutSince, HasTaken}

-- ---- pieces

pub appends_same : (a b c : Option (List ℕ)) (xs : List ℕ) → Appends a b xs → c ≡ b → Appends a c xs
appends_same a b c xs h e = subst (λ (z : Option (List ℕ)). Appends a z xs) (sym e) h

prefix_more : (a b c : Option (List ℕ)) (xs ys : List ℕ) → Appends a b xs → AppendsPrefix b c ys → AppendsPrefix a c (xs ++ ys)
prefix_more None b c xs ys h k = tt
prefix_more (Some s) None c xs ys h k = absurd h
prefix_more (Some s) (Some t) None xs ys h k = absurd k
prefix_more (Some s) (Some t) (Some u) xs ys h (n, small, e) =
    (length xs + n, omega (arith, length-append xs ys), e ∙ ap (λ z. z ++ take n ys) h ∙ append_assoc s xs (take n ys) ∙ ap (λ z. s ++ z) (sym (take-append-add xs ys n)))

prefix_whole : (a b : Option (List ℕ)) (xs : List ℕ) → Appends a b xs → AppendsPrefix a b xs
prefix_whole None b xs h = tt
prefix_whole (Some s) None xs h = absurd h
prefix_whole (Some s) (Some t) xs h = (length xs, omega arith, h ∙ ap (λ z. s ++ z) (sym (take_all (length xs) xs (omega arith))))

prefix_front : (a b : Option (List ℕ)) (xs ys : List ℕ) → Appends a b xs → AppendsPrefix a b (xs ++ ys)
prefix_front None b xs ys h = tt
prefix_front (Some s) None xs ys h = absurd h
prefix_front (Some s) (Some t) xs ys h = (length xs, omega (arith, length-append xs ys), h ∙ ap (λ z. s ++ z) (sym (take-append-le (length xs) xs ys (omega arith) ∙ take_all (length xs) xs (omega arith))))

-- ---- a history that grew

begun_text : (T B : List HistoryItem) → Begins T B → text_of B ≡ text_of T
begun_text T B begins_none = refl
begun_text T B (begins_one s) = refl

-- nothing was told but perhaps a start
pub still_text : (n m : ℕ) (T B U : List HistoryItem) → Begins T B → Ends n B m U → m ≡ n → text_of U ≡ text_of T
still_text n m T B U b ends_none e = begun_text T B b
still_text n m T B U b (ends_one x k) e = absurd (omega (arith, e))

begun_out : (a b c : Option (List ℕ)) (T B : List HistoryItem) (r : Result (Unit {0}) RunFault) → Begins T B → HandsOutSince (length T) B b c r → Appends a b (text_of T) → HandsNothing b c r
begun_out a b c T B r begins_none h t = h.same refl
begun_out a b c T B r (begins_one s) h t = h.more (λ e. omega (arith, e))

nothing_taken : (a b c : Option (List ℕ)) (T B : List HistoryItem) (r : Result (Unit {0}) RunFault) → Begins T B → HandsNothing b c r → Appends a b (text_of T) → HasTaken r a c B
nothing_taken a b c T B r g h t = subst (λ (z : Result (Unit {0}) RunFault). HasTaken z a c B) (sym h.done) (subst (λ (xs : List ℕ). Appends a c xs) (sym (begun_text T B g)) (appends_same a b c (text_of T) t h.same))

entry_taken : (a b c : Option (List ℕ)) (T B : List HistoryItem) (x : Entry) (r : Result (Unit {0}) RunFault) → Begins T B → HasHanded x b c r → Appends a b (text_of T) → (U : List HistoryItem) → text_of U ≡ text_of B ++ entry_text x → (Appends a c (text_of B) → LacksNewest a c U) → HasTaken r a c U
entry_taken a b c T B x (Ok tt) g h t U is lacks = subst (λ (xs : List ℕ). Appends a c xs) (sym (is ∙ ap (λ xs. xs ++ entry_text x) (begun_text T B g))) (appends_more a b c (text_of T) (entry_text x) t h)
entry_taken a b c T B x (Err (stops.Store faults.NoMemory)) g h t U is lacks = lacks (subst (λ (xs : List ℕ). Appends a c xs) (sym (begun_text T B g)) (appends_same a b c (text_of T) t h))
entry_taken a b c T B x (Err (stops.Store faults.DeviceFault)) g h t U is lacks = absurd h
entry_taken a b c T B x (Err (stops.Store (faults.BadPage d))) g h t U is lacks = absurd h
entry_taken a b c T B x (Err stops.WriteFault) g h t U is lacks = subst (λ (xs : List ℕ). AppendsPrefix a c xs) (sym (is ∙ ap (λ xs. xs ++ entry_text x) (begun_text T B g))) (prefix_more a b c (text_of T) (entry_text x) t h)

begun_length : (T B : List HistoryItem) → Begins T B → (suc (length B) ≡ length T) → ⊥
begun_length T B begins_none e = omega (arith, e)
begun_length T B (begins_one s) e = omega (arith, e)

-- the lines of what an event told were handed out
pub taken_more : (a b c : Option (List ℕ)) (n m : ℕ) (T B U : List HistoryItem) (r : Result (Unit {0}) RunFault) → Begins T B → Ends n B m U → HandsOutSince (length T) U b c r → Appends a b (text_of T) → HasTaken r a c U
taken_more a b c n m T B U r g ends_none h t = nothing_taken a b c T B r g (begun_out a b c T B r g h t) t
taken_more a b c n m T B U r g (ends_one x k) h t = entry_taken a b c T B x r g (h.more (λ e. begun_length T B g e)) t (item.Told x k ∷ B) refl (λ z. z)

-- ---- a run that stopped

-- a fault of the store before the entry was told
pub printed_before : (f : StoreFault) (a b : Option (List ℕ)) (T : List HistoryItem) → Appends a b (text_of T) → IsPrinted {A = Unit {0}} (Err (stops.Store f)) a b T
printed_before faults.DeviceFault a b T h = h
printed_before (faults.BadPage d) a b T h = h
printed_before faults.NoMemory a b T h = inl h

-- a fault of the lines
pub printed_part : (f : RunFault) (a b : Option (List ℕ)) (T : List HistoryItem) → HasTaken (Err f) a b T → IsPrinted {A = Unit {0}} (Err f) a b T
printed_part (stops.Store faults.DeviceFault) a b T h = absurd h
printed_part (stops.Store (faults.BadPage d)) a b T h = absurd h
printed_part (stops.Store faults.NoMemory) a b T h = inr h
printed_part stops.WriteFault a b T h = h

lacks_prefix : (a b : Option (List ℕ)) (T : List HistoryItem) → LacksNewest a b T → AppendsPrefix a b (text_of T)
lacks_prefix a b [] h = absurd h
lacks_prefix a b (item.Started s ∷ T) h = absurd h
lacks_prefix a b (item.Told x k ∷ T) h = prefix_front a b (text_of T) (entry_text x) h

either_prefix : (a b : Option (List ℕ)) (T : List HistoryItem) → Appends a b (text_of T) ⊎ LacksNewest a b T → AppendsPrefix a b (text_of T)
either_prefix a b T (inl h) = prefix_whole a b (text_of T) h
either_prefix a b T (inr h) = lacks_prefix a b T h

-- in each case a first part of the lines
pub printed_took : (r : Result (Unit {0}) RunFault) (a b : Option (List ℕ)) (T : List HistoryItem) → IsPrinted r a b T → AppendsPrefix a b (text_of T)
printed_took (Ok tt) a b T h = prefix_whole a b (text_of T) h
printed_took (Err (stops.Store faults.DeviceFault)) a b T h = prefix_whole a b (text_of T) h
printed_took (Err (stops.Store (faults.BadPage d))) a b T h = prefix_whole a b (text_of T) h
printed_took (Err (stops.Store faults.NoMemory)) a b T h = either_prefix a b T h
printed_took (Err stops.WriteFault) a b T h = h
