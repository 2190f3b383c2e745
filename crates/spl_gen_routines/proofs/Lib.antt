pub mod SeenScopes
