-- A builder's value is stored as its word and its cache.
use Rattle.std.specs.Prelude.{◌≡◌, List, refl}
use Rattle.std.specs.Coded.{Coded, code_by, coded×}
use Rattle.rowan_green.specs.Word.{Symbol}
use Rattle.rowan_green.specs.Coding.{coded_word}
use Rattle.rowan_builder.specs.Cache.{CacheValue}
use Rattle.rowan_builder.specs.CacheCoding.{coded_cache}
use Rattle.rowan_builder.specs.Builder.{BuilderValue}

abbrev builder_parts : BuilderValue → List Symbol × CacheValue
builder_parts b = (b.word, b.cache)

abbrev builder_of : List Symbol × CacheValue → BuilderValue
builder_of p = record { word = p.0; cache = p.1 }

pub builder_of-parts : (b : BuilderValue) → builder_of (builder_parts b) ≡ b
builder_of-parts b = refl

abbrev pub coded_builder : Coded BuilderValue
coded_builder =
    let parts = coded× coded_word coded_cache in
    code_by (List Symbol × CacheValue) parts builder_parts builder_of builder_of-parts
