pub mod FolderFiles
