-- What sections name in packets, one packet after the other.
use Rattle.std.proofs.Common.{◌≡◌, ◌∙◌, ℕ, true, false, Bool, cond, List, [], ◌∷◌, ◌++◌, Option, Some, None, refl, sym, ap, append-nil}
use Rattle.std.specs.Prelude.{filter, option_and_then}
use Rattle.std.specs.List.{concat}
use Rattle.std.proofs.lemmas.List.Elements.{filter-append}
use Rattle.std.proofs.lemmas.List.Folds.{concat-append}
use Rattle.psi_tables.specs.Services.{pmt_in, pid_in}
use Rattle.section_reader.specs.First.{first_in}
use Rattle.section_reader.proofs.FirstLaws.{named_before}
use Rattle.service_mux.specs.Taken.{Named, of_pid, subtitles_of}
use Rattle.service_mux.specs.Private.Taking.{IsBehindMap}

-- ---- the service

-- the PMT that the first table leads to
then_cases : (table : Option Named) (f : Named → Option Named) (found : Named)
    → option_and_then f table ≡ Some found → (first : Named) × (table ≡ Some first) × (f first ≡ Some found)
then_cases None f found some = absurd cc
then_cases (Some first) f found some = (first, refl, some)

pub subtitles_named : (service : ℕ) (packets : List (List ℕ)) (table found : Named)
    → first_in (pmt_in service) 0 packets ≡ Some table → first_in (pid_in service) table.0 table.1 ≡ Some found
    → subtitles_of service packets ≡ Some found
unfolding subtitles_of
subtitles_named service packets table found first then =
    ap (λ (o : Option Named). option_and_then (λ (t : Named). first_in (pid_in service) t.0 t.1) o) first ∙ then

pub no_table : (service : ℕ) (packets : List (List ℕ)) → first_in (pmt_in service) 0 packets ≡ None
    → subtitles_of service packets ≡ None
unfolding subtitles_of
no_table service packets none =
    ap (λ (o : Option Named). option_and_then (λ (t : Named). first_in (pid_in service) t.0 t.1) o) none

pub no_map : (service : ℕ) (packets : List (List ℕ)) (table : Named)
    → first_in (pmt_in service) 0 packets ≡ Some table → first_in (pid_in service) table.0 table.1 ≡ None
    → subtitles_of service packets ≡ None
unfolding subtitles_of
no_map service packets table first none =
    ap (λ (o : Option Named). option_and_then (λ (t : Named). first_in (pid_in service) t.0 t.1) o) first ∙ none

-- subtitles that were found stay so
pub subtitles_stay : (service : ℕ) (packets : List (List ℕ)) (packet : List ℕ) (found : Named)
    → subtitles_of service packets ≡ Some found
    → subtitles_of service (packets ++ packet ∷ []) ≡ Some (found.0, found.1 ++ packet ∷ [])
unfolding subtitles_of
subtitles_stay service packets packet found some =
    let cases =
    then_cases (first_in (pmt_in service) 0 packets) (λ (t : Named). first_in (pid_in service) t.0 t.1) found some
    in
    ap (λ (o : Option Named). option_and_then (λ (t : Named). first_in (pid_in service) t.0 t.1) o)
    (named_before (pmt_in service) 0 [] packets packet cases.0 cases.1)
    ∙ named_before (pid_in service) cases.0.0 [] cases.0.1 packet found cases.2

-- ---- what was taken

one_more : (pid : ℕ) (behind : List (List ℕ)) (packet bytes : List ℕ) (is : Bool) → of_pid pid packet ≡ is
    → bytes ≡ concat (filter (of_pid pid) behind)
    → bytes ++ cond is packet [] ≡ concat (filter (of_pid pid) (behind ++ packet ∷ []))
one_more pid behind packet bytes is test taken =
    ap (λ (l : List ℕ). l ++ cond is packet []) taken
    ∙ ap (λ (l : List ℕ). concat (filter (of_pid pid) behind) ++ l) (by is)
    ∙ sym (concat-append (filter (of_pid pid) behind) (cond is (packet ∷ []) []))
    ∙ ap (λ (l : List (List ℕ)). concat (filter (of_pid pid) behind ++ l)) (by_test is test)
    ∙ ap (λ (l : List (List ℕ)). concat l) (sym (filter-append (of_pid pid) behind (packet ∷ [])))
  where
    by : (b : Bool) → cond b packet [] ≡ concat (cond b (packet ∷ []) [])
    by true = sym (append-nil packet)
    by false = refl

    by_test : (b : Bool) → of_pid pid packet ≡ b
        → cond b (packet ∷ []) [] ≡ filter (of_pid pid) (packet ∷ [])
    by_test b e = ap (λ (t : Bool). cond t (packet ∷ []) []) (sym e)

-- a packet behind the PMT is taken where it has the PID
pub taken_more : (service pid : ℕ) (packets : List (List ℕ)) (bytes packet : List ℕ) (is : Bool)
    → of_pid pid packet ≡ is → IsBehindMap service pid packets bytes
    → IsBehindMap service pid (packets ++ packet ∷ []) (bytes ++ cond is packet [])
taken_more service pid packets bytes packet is test map = record {
  behind = map.behind ++ packet ∷ [];
  found = subtitles_stay service packets packet (pid, map.behind) map.found;
  taken = one_more pid map.behind packet bytes is test map.taken;
}
