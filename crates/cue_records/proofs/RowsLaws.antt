-- The records of a text, one after another, without a bound on their number.
use Rattle.std.proofs.Common.{◌≡◌, ℕ, zero, suc, ◌+◌, ◌-◌, ◌<◌, ◌≤◌, List, [], ◌∷◌, length, Bool, true, false, if◌then◌else◌, Option, Some, None, IsSome, refl, ap, sym, ◌∙◌, arith, add-one, cond}
use Rattle.csv.specs.Machine.{Read, next_record, step, is_end, ends_at_end}
use Rattle.csv.specs.Reading.{default_config, records_from, records_next, ReadsNext, NextIs, ReadRecord, source_of, pending_of}
use Rattle.csv.specs.declared.parser.State.{State}
use Rattle.csv.specs.declared.parser.State.TheVariants as st
use Rattle.csv.specs.declared.reader.Reader.{Reader}
use Rattle.cue_records.specs.Rows.{Row, rows_from, rows_of_source, rows_left, IsReadable}

-- what a test chose
chosen : {A : Type 0} (b : Bool) (x y z : A) (P : Type 0) → cond b x y ≡ z → (x ≡ z → P) → (y ≡ z → P)
    → P
chosen true x y z P e first second = first e
chosen false x y z P e first second = second e

-- a record takes a byte, or is the last
pub length-next_record : (xs : List ℕ) (s : State) (fields : List (List ℕ)) (field : List ℕ) (p : Read)
    → next_record default_config s fields field xs ≡ Some p → length p.2 ≤ length xs - 1
unfolding next_record
length-next_record [] s fields field p e =
    chosen (ends_at_end s) _ _ (Some p) (length p.2 ≤ 0) e
    (λ h. let rest : [] ≡ p.2 = cc in rw (← rest) (omega arith)) (λ h. cc)
length-next_record (c ∷ cs) s fields field p e =
    chosen (is_end (step default_config s c).1) _ _ (Some p) (length p.2 ≤ length (c ∷ cs) - 1) e
    (λ h. let rest : cs ≡ p.2 = cc in rw (← rest) (omega arith))
    (λ h. let less : length p.2 ≤ length cs - 1 = length-next_record cs _ _ _ p h in omega arith)

-- at the end of the text the last record leaves nothing
pub next_record-nil : (s : State) (fields : List (List ℕ)) (field : List ℕ) (p : Read)
    → next_record default_config s fields field [] ≡ Some p → (p.1 ≡ st.StartRecord) × (p.2 ≡ [])
unfolding next_record
next_record-nil s fields field p e =
    chosen (ends_at_end s) _ _ (Some p) ((p.1 ≡ st.StartRecord) × (p.2 ≡ [])) e (λ h. (cc, cc)) (λ h. cc)

-- nothing is left of a text that has been read
pub records_from-end : (n : ℕ) → records_from default_config n st.StartRecord [] ≡ []
unfolding records_from next_record
records_from-end zero = refl
records_from-end (suc n) = refl

-- what is left after the last record
after_last : (n : ℕ) (p : Read) → (p.1 ≡ st.StartRecord) × (p.2 ≡ [])
    → records_from default_config n p.1 p.2 ≡ []
after_last n p h = rw (h.0, h.1) (records_from-end n)

-- where what follows agrees, so do the records
records_next-agree : (f g : State → List ℕ → List Row) (o : Option Read)
    → ((p : Read) → o ≡ Some p → f p.1 p.2 ≡ g p.1 p.2) → records_next f o ≡ records_next g o
records_next-agree f g None agree = refl
records_next-agree f g (Some p) agree = ap (λ rows. p.0 ∷ rows) (agree p refl)

-- any bound above the number of bytes serves
pub records_from-more : (n m : ℕ) (s : State) (xs : List ℕ) → length xs < n → length xs < m
    → records_from default_config n s xs ≡ records_from default_config m s xs
unfolding records_from
records_from-more zero m s xs h k = absurd (omega arith)
records_from-more (suc n) zero s xs h k = absurd (omega arith)
records_from-more (suc n) (suc m) s [] h k =
    records_next-agree _ _ _
    (λ p e. after_last n p (next_record-nil s [] [] p e) ∙ sym (after_last m p (next_record-nil s [] [] p e)))
records_from-more (suc n) (suc m) s (c ∷ cs) h k =
    records_next-agree _ _ _
    (λ p e. let less : length p.2
    ≤ length (c ∷ cs) - 1 = length-next_record (c ∷ cs) s [] [] p e in records_from-more n m p.1 p.2
    (omega arith) (omega arith))

-- no records are left after the last
rows_from-last : (p : Read) → (p.1 ≡ st.StartRecord) × (p.2 ≡ []) → rows_from p.1 p.2 ≡ []
rows_from-last p h = rw (h.0, h.1) (records_from-end 1)

-- the records of what is left: the next one, and those after it
pub rows_from-next : (s : State) (xs : List ℕ)
    → rows_from s xs ≡ records_next rows_from (next_record default_config s [] [] xs)
unfolding records_from
rows_from-next s [] =
    records_next-agree _ _ _
    (λ p e. after_last 0 p (next_record-nil s [] [] p e) ∙ sym (rows_from-last p (next_record-nil s [] [] p e)))
rows_from-next s (c ∷ cs) =
    rw add-one
    (records_next-agree _ _ _
    (λ p e. let less : length p.2
    ≤ length (c ∷ cs) - 1 = length-next_record (c ∷ cs) s [] [] p e in records_from-more (length (c ∷ cs))
    (length p.2 + 1) p.1 p.2 (omega arith) (omega arith)))

-- one read, over what was left before and after it
rows_of_source-read : (s s2 : State) (before after : Option (List ℕ)) (found : Bool) (fields : Row)
    → IsSome before → ReadsNext default_config s before after found fields s2
    → rows_of_source s before ≡ (if found then fields ∷ rows_of_source s2 after else [])
rows_of_source-read s s2 None after found fields known reads = cc
rows_of_source-read s s2 (Some xs) None found fields known reads = elim reads [ ]
rows_of_source-read s s2 (Some xs) (Some ys) found fields known reads =
    rows_from-next s xs ∙ told (next_record default_config s [] [] xs) reads
  where
    told : (o : Option Read) → NextIs o found fields s2 ys
        → records_next rows_from o ≡ (if found then fields ∷ rows_from s2 ys else [])
    told None h = rw h refl
    told (Some p) h = rw (h.0, h.1, h.2, h.3) refl

-- after a read the reader has looked for a byte order mark
source_of-read : {R : Type 0} (remaining : R → Option (List ℕ)) (new : Reader R) → new.bom_checked ≡ true
    → source_of remaining new ≡ pending_of (remaining new.rdr) new
source_of-read remaining new h = rw h refl

-- a read takes the first of the records that are left
pub rows_left-read : {R : Type 0} (remaining : R → Option (List ℕ)) (old new : Reader R) (found : Bool)
    (fields : Row) → IsReadable remaining old → ReadRecord remaining old new found fields
    → rows_left remaining old ≡ (if found then fields ∷ rows_left remaining new else [])
rows_left-read remaining old new found fields ready reads =
    let next : ReadsNext default_config old.state (source_of remaining old) (source_of remaining new) found fields
    new.state =
    rw (source_of-read remaining new reads.1, ← ready.config) reads.0 in
    rows_of_source-read old.state new.state (source_of remaining old) (source_of remaining new) found fields ready.known
    next
