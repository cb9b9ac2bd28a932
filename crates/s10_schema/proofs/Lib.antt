pub mod SchemaLemmas
