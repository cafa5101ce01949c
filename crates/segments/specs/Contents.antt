-- What the values of this crate stand for, whose bytes are those of a segment.
use Rattle.std.specs.Prelude.{None, ℕ, zero, suc, ◌+◌, ◌*◌, ◌/◌, ◌%◌, ◌==◌, nat_lt, List, [], ◌∷◌, length, drop, if◌then◌else◌}
use Rattle.stream_syntax.specs.declared.page.PageEntry.{PageEntry}
use Rattle.stream_syntax.specs.declared.clut.ClutEntry.{ClutEntry}
use Rattle.stream_syntax.specs.declared.region.Listing.{Listing}
use Rattle.stream_syntax.specs.Segments.{Page, Region, Clut, Object, Display, SegmentValue, of_page, of_region, of_clut, of_object, of_display, end_of_set, passed_over}
use Rattle.stream_syntax.specs.SegmentTests.{entry_size}
use Rattle.stream_syntax.specs.Tests.{byte_at, word_at}
use Rattle.sub_base.specs.Colour.{shown_of}
use Rattle.sub_base.specs.declared.colour.Colour.{Colour}
use Rattle.segments.specs.declared.page.PageSeg.{PageSeg}
use Rattle.segments.specs.declared.clut.ClutItems.{ClutItems}
use Rattle.segments.specs.declared.clut.ClutSeg.{ClutSeg}
use Rattle.segments.specs.declared.display.DisplaySeg.{DisplaySeg}
use Rattle.segments.specs.declared.object.ObjectSeg.{ObjectSeg}
use Rattle.segments.specs.declared.reading.Segment.{Segment}
use Rattle.segments.specs.declared.reading.Segment.TheVariants as variants
use Rattle.segments.specs.declared.writing.SegmentOut.{SegmentOut}
use Rattle.segments.specs.declared.writing.SegmentOut.TheVariants as outs
use Rattle.segments.specs.declared.region.RegionSeg.{RegionSeg}

-- what each six bytes stand for
abbrev pub by_six : {Item : Type 0} → (ℕ → ℕ → ℕ → ℕ → ℕ → ℕ → Item) → List ℕ
    → List Item
by_six item (a ∷ b ∷ c ∷ d ∷ e ∷ f ∷ rest) = item a b c d e f ∷ by_six item rest
by_six item rest = []

-- the entry of a page that six bytes stand for; the second of them is reserved
abbrev pub page_entry : ℕ → ℕ → ℕ → ℕ → ℕ → ℕ → PageEntry
page_entry region free x1 x0 y1 y0 = record { region = region; x = x1 * 256 + x0; y = y1 * 256 + y0 }

-- the entries of a page, six bytes each
abbrev pub page_entries : List ℕ → List PageEntry
page_entries bytes = by_six page_entry bytes

-- what a page composition that was read stands for
abbrev pub page_value : PageSeg → Page
page_value seg =
    record { time_out = seg.time_out; version = seg.version; state = seg.state; entries = page_entries seg.entries.now }

-- the listing of a region that six bytes stand for
abbrev pub listing : ℕ → ℕ → ℕ → ℕ → ℕ → ℕ → Listing
listing object1 object0 x1 x0 y1 y0 =
    record { object = object1 * 256 + object0; x = (x1 * 256 + x0) % 4096; y = (y1 * 256 + y0) % 4096 }

-- the listings of a region, six bytes each
abbrev pub region_listings : List ℕ → List Listing
region_listings bytes = by_six listing bytes

-- what a region composition that was read stands for
abbrev pub region_value : RegionSeg → Region
region_value seg =
    record {
      head = record {
        region = seg.region;
        version = seg.version;
        fill = seg.fill;
        width = seg.width;
        height = seg.height;
        depth = seg.depth;
        clut = seg.clut;
        code8 = seg.code8;
        code4 = seg.code4;
        code2 = seg.code2;
      };
      listings = region_listings seg.listings.now;
    }

-- the colour of an entry of a CLUT in the full range, as it is shown
abbrev pub full_colour : List ℕ → Colour
full_colour bytes =
    shown_of (record { y = byte_at 2 bytes; cr = byte_at 3 bytes; cb = byte_at 4 bytes; t = byte_at 5 bytes })

-- the colour of an entry of a CLUT by its high bits, as it is shown
abbrev pub short_colour : List ℕ → Colour
short_colour bytes =
    shown_of (record {
      y = word_at 2 bytes / 1024 * 4;
      cr = word_at 2 bytes / 64 % 16 * 16;
      cb = word_at 2 bytes / 4 %
          16 * 16;
      t = word_at 2 bytes % 4 * 64;
    })

-- the first entry of a CLUT
abbrev pub first_entry : List ℕ → ClutEntry
first_entry bytes =
    record {
      entry = byte_at 0 bytes;
      two = byte_at 1 bytes / 128 % 2 == 1;
      four = byte_at 1 bytes / 64 % 2 == 1;
      eight = byte_at 1 bytes / 32 % 2 == 1;
      colour = if byte_at 1 bytes % 2 == 1 then full_colour bytes else short_colour bytes;
    }

-- the first entries of a CLUT, at most so many, up to one that is cut
abbrev pub first_entries : ℕ → List ℕ → List ClutEntry
first_entries zero bytes = []
first_entries (suc most) bytes =
    if nat_lt (length bytes) (entry_size bytes) then []
    else first_entry bytes ∷ first_entries most (drop (entry_size bytes) bytes)

-- the entries of a CLUT
unfoldable pub clut_entries : List ℕ → List ClutEntry
clut_entries bytes = first_entries (length bytes) bytes

-- what a CLUT definition that was read stands for
abbrev pub clut_value : ClutSeg → Clut
clut_value seg = record { clut = seg.clut; version = seg.version; entries = clut_entries seg.entries.now }

-- what is left of the entries of a CLUT
abbrev pub items_left : ClutItems → List ClutEntry
items_left items = clut_entries items.rest.now

-- what a display definition that was read stands for
abbrev pub display_value : DisplaySeg → Display
display_value seg = record { version = seg.version; width = seg.width; height = seg.height; window = seg.window }

-- what an object stands for that was read or is to be written
abbrev pub object_value : ObjectSeg → Object
object_value seg =
    record {
      object = seg.object;
      version = seg.version;
      see_through = seg.see_through;
      top = seg.top.now;
      bottom = seg.bottom.now;
    }

-- what a segment that was read stands for
abbrev pub contents : Segment → SegmentValue
contents (variants.Page seg) = of_page (page_value seg)
contents (variants.Region seg) = of_region (region_value seg)
contents (variants.Clut seg) = of_clut (clut_value seg)
contents (variants.Object seg) = of_object (object_value seg)
contents (variants.Display seg) = of_display (display_value seg)
contents variants.End = end_of_set
contents variants.Passed = passed_over

-- what a segment that is to be written stands for
abbrev pub value_of : SegmentOut → SegmentValue
value_of (outs.Page time_out version state entries) =
    of_page (record { time_out = time_out; version = version; state = state; entries = entries.now })
value_of (outs.Region head listings) = of_region (record { head = head; listings = listings.now })
value_of (outs.Clut clut version entries) = of_clut (record { clut = clut; version = version; entries = entries.now })
value_of (outs.Object seg) = of_object (object_value seg)
value_of (outs.Display version width height) =
    of_display (record { version = version; width = width; height = height; window = None })
value_of outs.End = end_of_set
