-- Descriptors, streams and entries one after another: what the first of them is, and what stands behind it.
use Rattle.std.proofs.Common.{◌≡◌, ℕ, zero, suc, ◌+◌, ◌-◌, ◌<◌, ◌≤◌, Bool, true, false, ltb, List, [], ◌∷◌, length, take, drop, Some, None, refl, ap, subst, ◌∙◌, arith, length-drop}
use Rattle.std.specs.Prelude.{◌==◌, ◌&&◌, ◌||◌, if◌then◌else◌, find, option_map, sum_by}
use Rattle.std.specs.List.{list_all, list_any}
use Rattle.std.proofs.lemmas.Bool.{le-ltb, lt-ltb}
use Rattle.std.proofs.lemmas.Bool.Decides.{nat_tests}
use Rattle.std.proofs.lemmas.List.{length-take-le, take_rest}
use Rattle.std.proofs.lemmas.List.Sums.{sum_by-cons}
use Rattle.stream_syntax.specs.Tests.{byte_at, word_at}
use Rattle.psi_tables.specs.Loops.{Stream, are_descriptors, are_streams, descriptor_size, descriptors_of, descriptors_within, entries_of, first_descriptors, first_size, stream_size, streams_of, streams_within, thirteen_at, twelve_at}
use Rattle.psi_tables.specs.Services.{is_subtitles, is_subtitling, pid_listed, subtitle_pid}
use Rattle.psi_tables.specs.Walking.{IsFirstDescriptor, IsFirstEntry, IsFirstStream, entry_value, stream_value}
use Rattle.psi_tables.specs.declared.loops.DescriptorEntry.{DescriptorEntry}
use Rattle.psi_tables.specs.declared.loops.ProgrammeEntry.{ProgrammeEntry}
use Rattle.psi_tables.specs.declared.loops.StreamEntry.{StreamEntry}

-- ---- descriptors

-- more than enough is enough
descriptors-enough : (m n : ℕ) (bytes : List ℕ) → length bytes ≤ m → length bytes ≤ n
    → descriptors_within m bytes ≡ descriptors_within n bytes
descriptors-enough zero zero bytes few few_too = refl
descriptors-enough zero (suc n) [] few few_too = refl
descriptors-enough zero (suc n) (byte ∷ bytes) few few_too = absurd (omega arith)
descriptors-enough (suc m) zero [] few few_too = refl
descriptors-enough (suc m) zero (byte ∷ bytes) few few_too = absurd (omega arith)
descriptors-enough (suc m) (suc n) bytes few few_too =
    let size : ℕ = 2 + byte_at 1 bytes in
    let less = length-drop size bytes in
    ap (λ rest. if ltb (length bytes) 2 || ltb (length bytes) (2 + byte_at 1 bytes) then []
    else record { tag = byte_at 0 bytes; content = take (byte_at 1 bytes) (drop 2 bytes) } ∷ rest)
    (descriptors-enough m n (drop size bytes) (omega (arith, less)) (omega (arith, less)))

-- the first one, and those behind it
pub descriptors_more : (bytes : List ℕ) → 2 ≤ length bytes → 2 + byte_at 1 bytes ≤ length bytes
    → descriptors_of bytes ≡ record { tag = byte_at 0 bytes; content = take (byte_at 1 bytes) (drop 2 bytes) }
    ∷ descriptors_of (drop (2 + byte_at 1 bytes) bytes)
unfolding descriptors_of
descriptors_more [] head whole = absurd (omega arith)
descriptors_more (byte ∷ bytes) head whole =
    let size : ℕ = 2 + byte_at 1 (byte ∷ bytes) in
    let less = length-drop size (byte ∷ bytes) in
    let a : ltb (length (byte ∷ bytes)) 2 ≡ false = le-ltb _ _ head in
    let b : ltb (length (byte ∷ bytes)) (2 + byte_at 1 (byte ∷ bytes)) ≡ false = le-ltb _ _ whole in
    rw (a, b)
    (ap (λ rest. record { tag = byte; content = take (byte_at 1 (byte ∷ bytes)) (drop 2 (byte ∷ bytes)) }
    ∷ rest)
    (descriptors-enough (length bytes) (length (drop size (byte ∷ bytes))) (drop size (byte ∷ bytes))
    (omega (arith, less)) (omega arith)))

pub descriptor_first : (bytes : List ℕ) (entry : DescriptorEntry) (size : ℕ) → size ≡ byte_at 1 bytes
    → 2 ≤ length bytes → 2 + size ≤ length bytes
    → (entry.tag ≡ byte_at 0 bytes) × (entry.content.now ≡ take (2 + size - 2) (drop 2 bytes))
    → IsFirstDescriptor bytes entry (take (length bytes - (2 + size)) (drop (2 + size) bytes))
descriptor_first bytes entry size size_is head whole says =
    let fits : 2 + byte_at 1 bytes ≤ length bytes = omega (arith, size_is, whole) in
    let content : entry.content.now ≡ take (byte_at 1 bytes) (drop 2 bytes) =
    says.1 ∙ ap (λ n. take n (drop 2 bytes)) (omega (arith, size_is)) in
    let behind : take (length bytes - (2 + size)) (drop (2 + size) bytes) ≡ drop (2 + byte_at 1 bytes) bytes =
    take_rest bytes (2 + size) ∙ ap (λ n. drop (2 + n) bytes) size_is in
    let long : length (take (byte_at 1 bytes) (drop 2 bytes)) ≡ byte_at 1 bytes =
    length-take-le (byte_at 1 bytes) (drop 2 bytes) (omega (arith, length-drop 2 bytes, fits)) in
    record {
      first = descriptors_more bytes head fits ∙ rw (behind, says.0, content) refl;
      size = omega (arith, long, ap length content, ap length behind, length-drop (2 + byte_at 1 bytes) bytes, fits);
    }

-- none is whole
pub descriptor_short : (bytes : List ℕ) → length bytes < 2 → descriptors_of bytes ≡ []
unfolding descriptors_of
descriptor_short [] short = refl
descriptor_short (byte ∷ bytes) short =
    let a : ltb (length (byte ∷ bytes)) 2 ≡ true = lt-ltb _ _ short in rw a refl

pub descriptor_cut : (bytes : List ℕ) → 2 ≤ length bytes → length bytes < 2 + byte_at 1 bytes
    → descriptors_of bytes ≡ []
unfolding descriptors_of
descriptor_cut [] head cut = refl
descriptor_cut (byte ∷ bytes) head cut =
    let a : ltb (length (byte ∷ bytes)) 2 ≡ false = le-ltb _ _ head in
    let b : ltb (length (byte ∷ bytes)) (2 + byte_at 1 (byte ∷ bytes)) ≡ true = lt-ltb _ _ cut in
    rw (a, b) refl

same-sum : (a b c : ℕ) → (a + b == a + c) ≡ (b == c)
same-sum a b c = grind (arith, nat_tests)

pub are_descriptors-more : (bytes behind : List ℕ) (tag : ℕ) (content : List ℕ)
    → descriptors_of bytes ≡ record { tag = tag; content = content } ∷ descriptors_of behind
    → length bytes ≡ 2 + length content + length behind → are_descriptors bytes ≡ are_descriptors behind
are_descriptors-more bytes behind tag content first all =
    let size : ℕ = 2 + length content in
    let total : sum_by descriptor_size (descriptors_of bytes)
    ≡ size + sum_by descriptor_size (descriptors_of behind) =
    ap (sum_by descriptor_size) first
    ∙ sum_by-cons descriptor_size (record { tag = tag; content = content }) (descriptors_of behind) in
    let long : length bytes ≡ size + length behind = omega (arith, all) in
    rw (total, long) (same-sum size (sum_by descriptor_size (descriptors_of behind)) (length behind))

pub are_descriptors_next : (bytes behind : List ℕ) (entry : DescriptorEntry)
    → IsFirstDescriptor bytes entry behind → are_descriptors bytes ≡ are_descriptors behind
are_descriptors_next bytes behind entry is =
    are_descriptors-more bytes behind entry.tag entry.content.now is.first is.size

pub are_descriptors_end : (bytes : List ℕ) → descriptors_of bytes ≡ []
    → are_descriptors bytes ≡ (length bytes == 0)
are_descriptors_end bytes none = rw none (grind (arith, nat_tests))

pub any_descriptor_next : (bytes behind : List ℕ) (entry : DescriptorEntry)
    → IsFirstDescriptor bytes entry behind
    → list_any is_subtitling (descriptors_of bytes)
    ≡ (entry.tag == 0x59 || list_any is_subtitling (descriptors_of behind))
any_descriptor_next bytes behind entry is = rw is.first refl

pub any_descriptor_end : (bytes : List ℕ) → descriptors_of bytes ≡ []
    → list_any is_subtitling (descriptors_of bytes) ≡ false
any_descriptor_end bytes none = rw none refl

-- ---- streams

streams-enough : (m n : ℕ) (bytes : List ℕ) → length bytes ≤ m → length bytes ≤ n
    → streams_within m bytes ≡ streams_within n bytes
streams-enough zero zero bytes few few_too = refl
streams-enough zero (suc n) [] few few_too = refl
streams-enough zero (suc n) (byte ∷ bytes) few few_too = absurd (omega arith)
streams-enough (suc m) zero [] few few_too = refl
streams-enough (suc m) zero (byte ∷ bytes) few few_too = absurd (omega arith)
streams-enough (suc m) (suc n) bytes few few_too =
    let less = length-drop (first_size bytes) bytes in
    ap (λ rest. if ltb (length bytes) 5 || ltb (length bytes) (first_size bytes) then []
    else record { kind = byte_at 0 bytes; pid = thirteen_at 1 bytes; descriptors = first_descriptors bytes }
    ∷ rest)
    (streams-enough m n (drop (first_size bytes) bytes) (omega (arith, less)) (omega (arith, less)))

pub streams_more : (bytes : List ℕ) → 5 ≤ length bytes → first_size bytes ≤ length bytes
    → streams_of bytes
    ≡ record { kind = byte_at 0 bytes; pid = thirteen_at 1 bytes; descriptors = first_descriptors bytes }
    ∷ streams_of (drop (first_size bytes) bytes)
unfolding streams_of
streams_more [] head whole = absurd (omega arith)
streams_more (byte ∷ bytes) head whole =
    let less = length-drop (first_size (byte ∷ bytes)) (byte ∷ bytes) in
    let a : ltb (length (byte ∷ bytes)) 5 ≡ false = le-ltb _ _ head in
    let b : ltb (length (byte ∷ bytes)) (first_size (byte ∷ bytes)) ≡ false = le-ltb _ _ whole in
    rw (a, b)
    (ap (λ rest. record {
      kind = byte;
      pid = thirteen_at 1 (byte ∷ bytes);
      descriptors = first_descriptors
          (byte ∷ bytes);
    } ∷ rest)
    (streams-enough (length bytes) (length (drop (first_size (byte ∷ bytes)) (byte ∷ bytes)))
    (drop (first_size (byte ∷ bytes)) (byte ∷ bytes)) (omega (arith, less)) (omega arith)))

stream-at : (bytes behind : List ℕ) (entry : StreamEntry) → 5 ≤ length bytes → first_size bytes ≤ length bytes
    → (entry.kind ≡ byte_at 0 bytes) × (entry.pid ≡ thirteen_at 1 bytes)
    × (entry.descriptors.now ≡ first_descriptors bytes)
    → behind ≡ drop (first_size bytes) bytes → IsFirstStream bytes entry behind
stream-at bytes behind entry head whole says is =
    let long : length (first_descriptors bytes) ≡ twelve_at 3 bytes =
    length-take-le (twelve_at 3 bytes) (drop 5 bytes) (omega (arith, length-drop 5 bytes)) in
    record {
      first = streams_more bytes head whole ∙ rw (is, says.0, says.1, says.2) refl;
      size = omega (arith, long, ap length says.2, ap length is, length-drop (first_size bytes) bytes);
    }

pub stream_first : (bytes : List ℕ) (entry : StreamEntry) (info : ℕ) → info ≡ twelve_at 3 bytes
    → 5 ≤ length bytes → 5 + info ≤ length bytes
    → (entry.kind ≡ byte_at 0 bytes) × (entry.pid ≡ thirteen_at 1 bytes)
    × (entry.descriptors.now ≡ take (5 + info - 5) (drop 5 bytes))
    → IsFirstStream bytes entry (take (length bytes - (5 + info)) (drop (5 + info) bytes))
stream_first bytes entry info is head whole says =
    let size : 5 + info ≡ first_size bytes = ap (λ n. 5 + n) is in
    let less : 5 + info - 5 ≡ twelve_at 3 bytes = omega (arith, is) in
    stream-at bytes (take (length bytes - (5 + info)) (drop (5 + info) bytes)) entry head
    (subst (λ n. n ≤ length bytes) size whole)
    (says.0, says.1, says.2 ∙ ap (λ n. take n (drop 5 bytes)) less)
    (take_rest bytes (5 + info) ∙ ap (λ n. drop n bytes) size)

pub stream_short : (bytes : List ℕ) → length bytes < 5 → streams_of bytes ≡ []
unfolding streams_of
stream_short [] short = refl
stream_short (byte ∷ bytes) short = let a : ltb (length (byte ∷ bytes)) 5 ≡ true = lt-ltb _ _ short in rw a refl

pub stream_cut : (bytes : List ℕ) → 5 ≤ length bytes → length bytes < first_size bytes
    → streams_of bytes ≡ []
unfolding streams_of
stream_cut [] head cut = refl
stream_cut (byte ∷ bytes) head cut =
    let a : ltb (length (byte ∷ bytes)) 5 ≡ false = le-ltb _ _ head in
    let b : ltb (length (byte ∷ bytes)) (first_size (byte ∷ bytes)) ≡ true = lt-ltb _ _ cut in
    rw (a, b) refl

swapped : (a b c : Bool) → (a && (b && c)) ≡ (b && (a && c))
swapped true true c = refl
swapped true false c = refl
swapped false true c = refl
swapped false false c = refl

pub are_streams-more : (bytes behind : List ℕ) (stream : Stream) → streams_of bytes ≡ stream ∷ streams_of behind
    → length bytes ≡ 5 + length stream.descriptors + length behind
    → are_streams bytes ≡ (are_descriptors stream.descriptors && are_streams behind)
are_streams-more bytes behind first_one first all =
    let size : ℕ = 5 + length first_one.descriptors in
    let total : sum_by stream_size (streams_of bytes) ≡ size + sum_by stream_size (streams_of behind) =
    ap (sum_by stream_size) first ∙ sum_by-cons stream_size first_one (streams_of behind) in
    let long : length bytes ≡ size + length behind = omega (arith, all) in
    rw (total, long)
    (rw first
    (ap (λ whole. whole
    && (are_descriptors first_one.descriptors
    && list_all (λ stream. are_descriptors stream.descriptors) (streams_of behind)))
    (same-sum size (sum_by stream_size (streams_of behind)) (length behind))
    ∙ swapped (sum_by stream_size (streams_of behind) == length behind) (are_descriptors first_one.descriptors)
    (list_all (λ stream. are_descriptors stream.descriptors) (streams_of behind))))

pub are_streams_next : (bytes behind : List ℕ) (entry : StreamEntry) → IsFirstStream bytes entry behind
    → are_streams bytes ≡ (are_descriptors entry.descriptors.now && are_streams behind)
are_streams_next bytes behind entry is = are_streams-more bytes behind (stream_value entry) is.first is.size

pub are_streams_end : (bytes : List ℕ) → streams_of bytes ≡ [] → are_streams bytes ≡ (length bytes == 0)
are_streams_end bytes none = rw none (grind (arith, nat_tests))

pub subtitle_pid_next : (bytes behind : List ℕ) (entry : StreamEntry) → IsFirstStream bytes entry behind
    → subtitle_pid bytes ≡ (if is_subtitles (stream_value entry) then Some entry.pid else subtitle_pid behind)
subtitle_pid_next bytes behind entry is = rw is.first (by_test (is_subtitles (stream_value entry)) refl)
  where
    by_test : (found : Bool) → is_subtitles (stream_value entry) ≡ found
        → option_map (λ stream. stream.pid) (find is_subtitles (stream_value entry ∷ streams_of behind))
        ≡ (if is_subtitles (stream_value entry) then Some entry.pid else subtitle_pid behind)
    by_test true e = rw e refl
    by_test false e = rw e refl

pub subtitle_pid_end : (bytes : List ℕ) → streams_of bytes ≡ [] → subtitle_pid bytes ≡ None
subtitle_pid_end bytes none = rw none refl

-- ---- entries

pub entry_first : (bytes behind : List ℕ) (entry : ProgrammeEntry) → 4 ≤ length bytes
    → (entry.number ≡ word_at 0 bytes) × (entry.pid ≡ thirteen_at 2 bytes)
    → behind ≡ take (length bytes - 4) (drop 4 bytes) → IsFirstEntry bytes entry behind
entry_first (a ∷ b ∷ c ∷ d ∷ bytes) behind entry long says is =
    let rest : behind ≡ bytes = is ∙ take_rest (a ∷ b ∷ c ∷ d ∷ bytes) 4 in
    record {
      first = rw (rest, says.0, says.1) refl;
      size = omega (arith, ap length rest);
    }
entry_first [] behind entry long says is = absurd (omega arith)
entry_first (a ∷ []) behind entry long says is = absurd (omega arith)
entry_first (a ∷ b ∷ []) behind entry long says is = absurd (omega arith)
entry_first (a ∷ b ∷ c ∷ []) behind entry long says is = absurd (omega arith)

pub entry_short : (bytes : List ℕ) → length bytes < 4 → entries_of bytes ≡ []
entry_short [] short = refl
entry_short (a ∷ []) short = refl
entry_short (a ∷ b ∷ []) short = refl
entry_short (a ∷ b ∷ c ∷ []) short = refl
entry_short (a ∷ b ∷ c ∷ d ∷ bytes) short = absurd (omega arith)

pub pid_listed_next : (service : ℕ) (bytes behind : List ℕ) (entry : ProgrammeEntry)
    → IsFirstEntry bytes entry behind
    → pid_listed service bytes ≡ (if entry.number == service then Some entry.pid else pid_listed service behind)
pid_listed_next service bytes behind entry is = rw is.first (by_test (entry.number == service) refl)
  where
    by_test : (found : Bool) → (entry.number == service) ≡ found
        → option_map (λ listed. listed.pid)
        (find (λ listed. listed.number == service) (entry_value entry ∷ entries_of behind))
        ≡ (if entry.number == service then Some entry.pid else pid_listed service behind)
    by_test true e = rw e refl
    by_test false e = rw e refl

pub pid_listed_end : (service : ℕ) (bytes : List ℕ) → entries_of bytes ≡ [] → pid_listed service bytes ≡ None
pid_listed_end service bytes none = rw none refl
