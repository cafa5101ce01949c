-- What is told of a stream, one packet after the other, and at its end.
use Rattle.std.proofs.Common.{◌≡◌, ◌∙◌, ℕ, ◌+◌, ◌<◌, Bool, true, false, List, [], ◌∷◌, ◌++◌, length, get_or, take, refl, sym, ap, subst, append-nil, append_assoc}
use Rattle.std.specs.Prelude.{◌||◌, Result, Ok, Err, OnErr}
use Rattle.std.specs.List.{flat_map}
use Rattle.std.proofs.lemmas.Grind.{flat_map-append}
use Rattle.std.proofs.lemmas.List.{take_more}
use Rattle.command_text.proofs.PutLaws.{PutsOut-both}
use Rattle.command_text.specs.Putting.{Buffered, PutsOut}
use Rattle.packet_walk.specs.Told.{StaysTold, TellsOne}
use Rattle.pid_text.proofs.PidsLaws.{pids_told}
use Rattle.pid_text.specs.PidText.{IsPidsText}
use Rattle.pid_text.specs.Private.Telling.{slots_text}
use Rattle.pid_text.specs.Watched.{HasWatched}
use Rattle.service_tables.specs.Reading.{HasRead}
use Rattle.service_tables.specs.Tables.{ProgrammeMap, programme_maps}
use Rattle.sub_base.specs.Endpoints.{Received}
use Rattle.service_text.specs.Listing.{IsListing, ListsMore, ServiceListing, listing_text}
use Rattle.service_text.specs.ServiceText.{service_line}
use Rattle.service_text.specs.Services.{services_at, services_of}
use Rattle.service_text.specs.Telling.{HasTakenStream, IsStreamText, is_wanting}
use Rattle.service_text.specs.declared.service.SubtitleService.{SubtitleService}
use Rattle.service_text.specs.declared.teller.PidTeller.{PidTeller}
use Rattle.service_text.proofs.OrderLaws.{all_in_order, none_in_order}
use Rattle.service_text.proofs.PlaceLaws.{listing_told, ordered_told}

-- ---- lines

pub service_put : (a b d : Received) (old mid new : Buffered) (entries : List SubtitleService) (place : ℕ)
    (other : SubtitleService) → place < length entries
    → PutsOut a b old mid (flat_map service_line (take place entries))
    → PutsOut b d mid new (service_line (get_or entries place other))
    → PutsOut a d old new (flat_map service_line (take (place + 1) entries))
service_put a b d old mid new entries place other within before here =
    subst (PutsOut a d old new)
    (ap (λ one. flat_map service_line (take place entries) ++ one)
    (sym (append-nil (service_line (get_or entries place other))))
    ∙ sym (flat_map-append service_line (take place entries) (get_or entries place other ∷ []))
    ∙ ap (flat_map service_line) (sym (take_more entries place other within)))
    (PutsOut-both a b d old mid new (flat_map service_line (take place entries))
    (service_line (get_or entries place other)) before here)

-- ---- one packet more

pub one_more_told : (before now : Received) (old new : PidTeller) (was is : Buffered) (place : ℕ) (packet : List ℕ)
    → TellsOne HasWatched before now old.pids new.pids was is place packet
    → ((packets : List (List ℕ)) → HasRead old.programmes packets → HasRead new.programmes (packets ++ packet ∷ []))
    → new.services ≡ old.services → TellsOne HasTakenStream before now old new was is place packet
one_more_told before now old new was is place packet tells reads same = record {
  goes = λ packets text counted has.
      let told = tells.goes packets text counted has.pids in (
        told.0,
        record {
          pids = told.1;
          programmes = reads packets has.programmes;
          services = subst (λ (l : ServiceListing). IsListing l []) (sym same) has.services;
        },
        told.2,
      );
}

pub stays_told : (before now : Received) (old new : PidTeller) (was is : Buffered)
    → StaysTold HasWatched before now old.pids new.pids was is
    → new.programmes ≡ old.programmes → new.services ≡ old.services → StaysTold HasTakenStream before now old new was is
stays_told before now old new was is stays programmes services = record {
  stays = λ packets text has. record {
    pids = stays.stays packets text has.pids;
    programmes = subst (λ p. HasRead p packets) (sym programmes) has.programmes;
    services = subst (λ (l : ServiceListing). IsListing l []) (sym services) has.services;
  };
  puts = stays.puts;
}

pub on_err : {A E : Type 0} → (result : Result A E) → (P : Type 0) → P → OnErr result P
on_err (Ok value) P holds = tt
on_err (Err fault) P holds = holds

-- ---- the text

or_parts : (a b : Bool) → (a || b) ≡ false → (a ≡ false) × (b ≡ false)
or_parts true b e = absurd cc
or_parts false b e = (refl, e)

-- nothing was wanting
pub none_wanting : (teller : PidTeller) → is_wanting teller ≡ false
    → (teller.pids.is_wanting ≡ false) × (teller.programmes.is_wanting ≡ false)
none_wanting teller none = or_parts teller.pids.is_wanting teller.programmes.is_wanting none

-- there is a text of the packets that were taken
pub text_of_told : (teller : PidTeller) (packets : List (List ℕ)) (text : List ℕ) → is_wanting teller ≡ false
    → HasTakenStream teller packets text → (all : List ℕ) × IsStreamText packets all
text_of_told teller packets text none has =
    let found = all_in_order [] [] (services_of packets) none_in_order in
    let services = ordered_told (services_of packets) found.0 found.1 in
    let pids = pids_told packets teller.pids (none_wanting teller none).0 has.pids.watched in (
      slots_text teller.pids.slots ++ services.0,
      record {
        pids = slots_text teller.pids.slots;
        services = services.0;
        told_pids = pids;
        told_services = services.1;
        whole = refl;
      },
    )

-- the texts of the PIDs and of the services
pub both_put : (a b d : Received) (old mid new : Buffered) (packets : List (List ℕ)) (text : List ℕ)
    (services : ServiceListing) → ((more : List ℕ) × IsPidsText packets (text ++ more) × PutsOut a b old mid more)
    → IsListing services (services_of packets) → PutsOut b d mid new (listing_text services)
    → (more : List ℕ) × IsStreamText packets (text ++ more) × PutsOut a d old new more
both_put a b d old mid new packets text services pids listing put = (
  pids.0 ++ listing_text services,
  record {
    pids = text ++ pids.0;
    services = listing_text services;
    told_pids = pids.1;
    told_services = listing_told services (services_of packets) listing;
    whole = sym (append_assoc text pids.0 (listing_text services));
  },
  PutsOut-both a b d old mid new pids.0 (listing_text services) pids.2 put,
)

-- the services of the programmes were listed
pub all_listed : (old new : ServiceListing) (packets : List (List ℕ)) (maps : List ProgrammeMap)
    → IsListing old [] → ListsMore old new (flat_map services_at maps) → programme_maps packets ≡ maps
    → IsListing new (services_of packets)
all_listed old new packets maps nothing lists is =
    subst (λ (l : List ProgrammeMap). IsListing new (flat_map services_at l)) (sym is) (lists.listed [] nothing)
